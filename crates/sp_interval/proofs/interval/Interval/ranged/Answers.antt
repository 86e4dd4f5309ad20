use Rattle.std.proofs.Common.{cond, FitsSigned, ap, ◌∙◌, rules}
use Rattle.std.specs.Int.{w128}
use Rattle.std.proofs.lemmas.Int.{to_z-of_z}
use Rattle.sp_interval.specs.declared.interval.Interval.TheVariants.{Of}
use Rattle.sp_interval.specs.inner.Wide.{number_of}
use Rattle.sp_interval.specs.Interval.{wrapped}
use Rattle.sp_interval.proofs.interval.Interval.ranged.Goals as goal

pub returns-in-Of : goal.returns-in-Of
returns-in-Of c =
    let lo_fits : FitsSigned w128 c.in-Of.lo = search rules in
    let hi_fits : FitsSigned w128 c.in-Of.hi = search rules in
    let low = simp to_z-of_z at c.of.ensures in
    let high = simp to_z-of_z at c.of-in-Of.ensures in
    rw c.in-Of.is (c.wrapped.ensures
    ∙ ap (λ x. wrapped c.args.kind x (number_of c.of-in-Of.result)) low ∙ ap (wrapped c.args.kind c.in-Of.lo) high
    ∙ ap (λ t. cond t (Of c.in-Of.lo c.in-Of.hi) (wrapped c.args.kind c.in-Of.lo c.in-Of.hi)) (c.if-not-is_within.ensures))
