use Rattle.std.proofs.Common.{◌≡◌, ◌∙◌, ◌<◌, ap, sym, subst, length, get_or, pos, ℤ, List, FitsSigned, rules, arith}
use Rattle.std.specs.Prelude.{not, int_le}
use Rattle.std.specs.Int.{w128}
use Rattle.std.proofs.lemmas.Int.{to_z-of_z}
use Rattle.sp_octagon.specs.Entries.{unbounded}
use Rattle.sp_octagon.specs.Order.{all_below}
use Rattle.sp_octagon.proofs.HalfOrder.{raised-none, raised-more, raised-same}
use Rattle.sp_octagon.proofs.kept.raise.Goals.{then-bound-other, else-bound-other}
use Rattle.sp_octagon.proofs.kept.raise.Goals as goal

pub places-init : goal.places-init
places-init c = raised-none c.args.bounds.now c.args.others.now

pub places-preserved : goal.places-preserved
places-preserved c =
    let a = c.places.bounds in
    let b = c.args.others.now in
    let low : c.places.place < length b = c.places-test.true in
    let room : length a ≡ length b = omega (arith, c.requires, c.places.auto.bounds) in
    let mine : FitsSigned w128 (get_or a c.places.place (pos 0)) = search rules in
    let theirs : FitsSigned w128 (get_or b c.places.place (pos 0)) = search rules in
    elim c.if-bound-other.branch [
      | then-bound-other w ↦
          let test = simp to_z-of_z at w.if-bound-other.true in
          let is = simp to_z-of_z at w.bounds-is in
          rw (is, w.grew-is) (raised-more c.args.bounds.now b a c.places.place c.places.grew low room c.places.invariant test)
      | else-bound-other w ↦
          let test = simp to_z-of_z at w.if-bound-other.false in
          rw (w.bounds-is, w.grew-is) (raised-same c.args.bounds.now b a c.places.place c.places.grew low room c.places.invariant test)
    ]

pub returns : goal.returns
returns c =
    let a = c.args.bounds.now in
    let b = c.args.others.now in
    let end : c.places.place ≡ length b = omega (arith, c.places-test.false, c.places.auto.place-end) in
    record {
      value = record {
        room = c.places.auto.bounds;
        greater = λ k hk. c.places.invariant.done k (omega (arith, hk, end, c.requires));
      };
      grew = c.places.invariant.told ∙ ap (λ n. not (all_below n (λ k. int_le (get_or b k unbounded) (get_or a k unbounded)))) end;
    }
