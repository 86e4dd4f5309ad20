use Rattle.std.proofs.Common.{◌≤◌, length, map, refl, sym}
use Rattle.std.proofs.lemmas.List.{length-map}
use Rattle.sp_types.specs.Programs.{function_of}
use Rattle.sp_types.specs.View.{shared_signature_of}
use Rattle.sp_check_env.specs.Env.{typed_by}
use Rattle.sp_check_env.proofs.Updates.{changed-set, changed-past}
use Rattle.sp_check_env.proofs.env.set_type.Goals as goal

pub returns-in-Some : goal.returns-in-Some
returns-in-Some c =
    changed-set function_of (typed_by (shared_signature_of c.args.of)) c.args.functions.now.items c.args.number c.in-Some.function.now (record c.in-Some.function.now { of = c.args.of })
    c.in-Some.ensures.item.3.0 c.in-Some.ensures.value refl

pub returns-in_default : goal.returns-in_default
returns-in_default c =
    let past : length (map function_of c.args.functions.now.items) ≤ c.args.number = simp length-map c.in_default.ensures.item.3 in
    sym (changed-past (typed_by (shared_signature_of c.args.of)) (map function_of c.args.functions.now.items) c.args.number past)
