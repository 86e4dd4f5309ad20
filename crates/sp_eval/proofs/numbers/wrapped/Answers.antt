use Rattle.std.proofs.Common.{◌≡◌, FitsSigned, sym, ap, ◌∙◌}
use Rattle.std.specs.Int.{w128, cast_unsigned}
use Rattle.std.proofs.lemmas.Int.{to_z-of_z}
use Rattle.sp_interval.specs.declared.interval.Interval.TheVariants.{Of}
use Rattle.sp_interval.specs.Interval.{turns, reduced}
use Rattle.sp_interval.proofs.Machine.{machine}
use Rattle.sp_eval.specs.Numbers.{pointer_range}
use Rattle.sp_eval.proofs.Wides.{same_word, wrapped-same, wrapped-apart}
use Rattle.sp_eval.proofs.numbers.wrapped.Goals as goal

pub returns-then-turns-last : goal.returns-then-turns-last
returns-then-turns-last c =
    let low : machine c.args.lo ≡ c.args.lo = to_z-of_z w128 c.args.lo c.ranges.lo in
    let high : machine c.args.hi ≡ c.args.hi = to_z-of_z w128 c.args.hi c.ranges.hi in
    let first : c.div_euclid-turns.result ≡ turns pointer_range c.args.lo = c.div_euclid-turns.ensures ∙ ap (turns pointer_range) low in
    let last : c.div_euclid-last.result ≡ turns pointer_range c.args.hi = c.div_euclid-last.ensures ∙ ap (turns pointer_range) high in
    let first_fits : FitsSigned w128 c.div_euclid-turns.result = record { sfits = c.div_euclid-turns.type_inv } in
    let last_fits : FitsSigned w128 c.div_euclid-last.result = record { sfits = c.div_euclid-last.type_inv } in
    let same = same_word c.div_euclid-turns.result c.div_euclid-last.result first_fits last_fits c.if-turns-last.true in
    let low_fits : FitsSigned w128 c.rem_euclid.result = record { sfits = c.rem_euclid.type_inv } in
    let high_fits : FitsSigned w128 c.rem_euclid-then-turns-last.result = record { sfits = c.rem_euclid-then-turns-last.type_inv } in
    let left : machine c.rem_euclid.result ≡ reduced pointer_range c.args.lo = to_z-of_z w128 c.rem_euclid.result low_fits ∙ c.rem_euclid.ensures.value ∙ ap (reduced pointer_range) low in
    let right : machine c.rem_euclid-then-turns-last.result ≡ reduced pointer_range c.args.hi = to_z-of_z w128 c.rem_euclid-then-turns-last.result high_fits ∙ c.rem_euclid-then-turns-last.ensures.value ∙ ap (reduced pointer_range) high in
    ap (λ z. Of z (machine c.rem_euclid-then-turns-last.result)) left ∙ ap (Of (reduced pointer_range c.args.lo)) right ∙ wrapped-same c.args.lo c.args.hi (sym first ∙ same ∙ last)

pub returns-else-turns-last : goal.returns-else-turns-last
returns-else-turns-last c =
    let low : machine c.args.lo ≡ c.args.lo = to_z-of_z w128 c.args.lo c.ranges.lo in
    let high : machine c.args.hi ≡ c.args.hi = to_z-of_z w128 c.args.hi c.ranges.hi in
    let first : c.div_euclid-turns.result ≡ turns pointer_range c.args.lo = c.div_euclid-turns.ensures ∙ ap (turns pointer_range) low in
    let last : c.div_euclid-last.result ≡ turns pointer_range c.args.hi = c.div_euclid-last.ensures ∙ ap (turns pointer_range) high in
    wrapped-apart c.args.lo c.args.hi (λ e. c.if-turns-last.false (ap (cast_unsigned w128) (first ∙ e ∙ sym last)))
