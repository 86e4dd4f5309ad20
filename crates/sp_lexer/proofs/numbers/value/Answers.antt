use Rattle.std.proofs.Common.{◌≡◌, drop, [], sym, ap, ◌∙◌, arith}
use Rattle.std.proofs.lemmas.List.{drop_all}
use Rattle.sp_lexer.specs.Numerals.{value_of, value_after}
use Rattle.sp_lexer.proofs.NumeralLaws.{value_after-next}
use Rattle.sp_lexer.proofs.numbers.value.Goals as goal

pub returns-in_err-checked_mul : goal.returns-in_err-checked_mul
returns-in_err-checked_mul c =
    rw c.from_residual.ensures (λ fits. c.in_err-checked_mul.ensures (omega (arith, fits, value_after-next c.args.base c.loop-digit.value c.loop-digit.digit-index c.args.digits.now _ c.requires c.loop-digit-test.true c.loop-digit.invariant.all)))

pub returns-in_err-value : goal.returns-in_err-value
returns-in_err-value c =
    rw c.from_residual-in_err-value.ensures (λ fits. c.in_err-value.ensures (omega (arith, fits, c.in_ok-checked_mul.ensures.1, c.value_of_digit.ensures.value, value_after-next c.args.base c.loop-digit.value c.loop-digit.digit-index c.args.digits.now _ c.requires c.loop-digit-test.true c.loop-digit.invariant.all)))

pub returns : goal.returns
returns c =
    let none : drop c.loop-digit.digit-index c.args.digits.now ≡ [] = drop_all _ _ c.loop-digit-test.false in
    let is : c.loop-digit.value ≡ value_of c.args.base c.args.digits.now = sym (ap (value_after c.args.base c.loop-digit.value) none) ∙ c.loop-digit.invariant.all in
    (omega (arith, is, c.loop-digit.invariant.fits), is)
