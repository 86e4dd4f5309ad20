use Rattle.std.proofs.Common.{map}
use Rattle.std.specs.Prelude.{Err}
use Rattle.std.proofs.lemmas.Result.{err_from_is_err_and}
use Rattle.sp_types.specs.View.{type_of, struct_of}
use Rattle.sp_base_checked.specs.Answers.{Answers}
use Rattle.sp_check_type_names.specs.Derivations.{derive, derived}
use Rattle.sp_check_type_names.specs.DerivationView.{derivation_of}
use Rattle.sp_check_type_names.proofs.Outermost.{taken, refused_whole, failed}
use Rattle.sp_check_type_names.proofs.derivations.derived.Goals as goal

pub derivations-preserved : goal.derivations-preserved
derivations-preserved c =
    taken (map struct_of c.args.structs.now) c.derivations.derivations.items c.pop.new.self.items c.in-Some.derivation (type_of c.derivations.of) (type_of c.in_ok-of.of)
    (derived (map struct_of c.args.structs.now) (map derivation_of c.args.derivations.items) (type_of c.args.base))
    c.in-Some.ensures.items c.derivations.invariant c.in_ok-of.ensures

pub returns-in_err-of : goal.returns-in_err-of
returns-in_err-of c =
    let ss = map struct_of c.args.structs.now in
    let whole = derived ss (map derivation_of c.args.derivations.items) (type_of c.args.base) in
    let made : Answers type_of whole (Err c.in_err-of.field-0.0) =
    failed type_of type_of whole (derive ss (derivation_of c.in-Some.derivation) (type_of c.derivations.of)) c.in_err-of.field-0.0
    (refused_whole ss c.derivations.derivations.items c.pop.new.self.items c.in-Some.derivation (type_of c.derivations.of) whole c.in-Some.ensures.items c.derivations.invariant)
    c.in_err-of.ensures in
    let p = err_from_is_err_and c.from_residual.result c.from_residual.ensures.1 in
    rw (p.1, p.2) made
