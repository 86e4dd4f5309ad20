use Rattle.std.proofs.Common.{◌≡◌, ◌∙◌, ◌<◌, ap, sym, length, get_or, pos, true, false, FitsSigned, rules, arith}
use Rattle.std.specs.Prelude.{int_le}
use Rattle.std.specs.Int.{w128}
use Rattle.std.proofs.lemmas.Int.{to_z-of_z}
use Rattle.std.proofs.lemmas.List.{get_or_default}
use Rattle.sp_octagon.specs.Entries.{unbounded}
use Rattle.sp_octagon.proofs.OrderLaws.{all_below_fails, all_below-next, le_fails, le_holds}
use Rattle.sp_octagon.proofs.kept.is_within.Goals as goal

pub returns-then-bound-other : goal.returns-then-bound-other
returns-then-bound-other c =
    let a = c.args.bounds.now in
    let b = c.args.others.now in
    let k = c.places.place in
    let mine : FitsSigned w128 (get_or a c.places.place (pos 0)) = search rules in
    let theirs : FitsSigned w128 (get_or b c.places.place (pos 0)) = search rules in
    let test = simp to_z-of_z at c.if-bound-other.true in
    let low : k < length b = omega (arith, c.requires, c.places-test.true) in
    let fails : int_le (get_or a k unbounded) (get_or b k unbounded) ≡ false =
    ap (λ z. int_le z (get_or b k unbounded)) (get_or_default a k unbounded (pos 0) c.places-test.true) ∙ ap (int_le (get_or a k (pos 0))) (get_or_default b k unbounded (pos 0) low) ∙ le_fails (get_or a k (pos 0)) (get_or b k (pos 0)) test in
    sym (all_below_fails (length a) (λ i. int_le (get_or a i unbounded) (get_or b i unbounded)) k c.places-test.true fails)

pub places-preserved : goal.places-preserved
places-preserved c =
    let a = c.args.bounds.now in
    let b = c.args.others.now in
    let k = c.places.place in
    let mine : FitsSigned w128 (get_or a c.places.place (pos 0)) = search rules in
    let theirs : FitsSigned w128 (get_or b c.places.place (pos 0)) = search rules in
    let test = simp to_z-of_z at c.if-bound-other.false in
    let low : k < length b = omega (arith, c.requires, c.places-test.true) in
    let holds : int_le (get_or a k unbounded) (get_or b k unbounded) ≡ true =
    ap (λ z. int_le z (get_or b k unbounded)) (get_or_default a k unbounded (pos 0) c.places-test.true) ∙ ap (int_le (get_or a k (pos 0))) (get_or_default b k unbounded (pos 0) low) ∙ le_holds (get_or a k (pos 0)) (get_or b k (pos 0)) test in
    all_below-next k (λ i. int_le (get_or a i unbounded) (get_or b i unbounded)) c.places.invariant holds
