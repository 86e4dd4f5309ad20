use Rattle.std.proofs.Common.{◌≡◌, FitsSigned, sym, ap, ◌∙◌, ◌^◌, pos, rules}
use Rattle.std.specs.Prelude.{int_lt, int_le}
use Rattle.std.specs.Int.{w128}
use Rattle.std.proofs.lemmas.Int.{to_z-of_z}
use Rattle.sp_interval.specs.Interval.{wrapped}
use Rattle.sp_interval.proofs.Machine.{machine}
use Rattle.sp_eval.specs.Numbers.{pointer_range}
use Rattle.sp_eval.proofs.Wides.{outside-low, outside-high}
use Rattle.sp_eval.proofs.numbers.ranged_as_pointer.Goals.{then-lo-lt0, else-lo-lt0}
use Rattle.sp_eval.proofs.numbers.ranged_as_pointer.Goals as goal

pub returns-in-Of : goal.returns-in-Of
returns-in-Of c =
    let lo_fits : FitsSigned w128 c.in-Of.lo = search rules in
    let hi_fits : FitsSigned w128 c.in-Of.hi = search rules in
    let low : machine c.in-Of.lo ≡ c.in-Of.lo = to_z-of_z w128 c.in-Of.lo lo_fits in
    let high : machine c.in-Of.hi ≡ c.in-Of.hi = to_z-of_z w128 c.in-Of.hi hi_fits in
    let value : c.wrapped.result ≡ wrapped pointer_range c.in-Of.lo c.in-Of.hi =
    c.wrapped.ensures ∙ ap (λ z. wrapped pointer_range z (machine c.in-Of.hi)) low ∙ ap (wrapped pointer_range c.in-Of.lo) high in
    rw c.in-Of.is (value ∙ elim c.if-lo-lt0.branch [
      | then-lo-lt0 w ↦ outside-low c.in-Of.lo c.in-Of.hi (ap (λ z. int_lt z (pos 0)) (sym low) ∙ w.if-lo-lt0.true)
      | else-lo-lt0 w ↦ outside-high c.in-Of.lo c.in-Of.hi (ap (λ z. int_le (pos (2 ^ 64)) z) (sym high) ∙ sym w.value-is ∙ c.if-hi-ge-MODULUS.true)
    ])
