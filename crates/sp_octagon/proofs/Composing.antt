-- Two changes, one after the other.
use Rattle.std.proofs.Common.{◌≡◌, ℕ, ◌*◌, true, cond, ℤ, ◌∙◌, ap, subst, arith}
use Rattle.std.proofs.lemmas.Int.{ints}
use Rattle.std.specs.Int.{int_min}
use Rattle.sp_octagon.specs.declared.octagon.Octagon.{Octagon}
use Rattle.sp_octagon.specs.Entries.{Entries, IsBound}
use Rattle.sp_octagon.specs.Points.{Point, Holds}
use Rattle.sp_octagon.specs.Changes.{is_pair, with_pair, lowered}
use Rattle.sp_octagon.specs.Octagons.{rows, entries, Becomes, octagon_le, OctagonHolds}
use Rattle.sp_octagon.proofs.OrderLaws.{below_from_test}
use Rattle.sp_octagon.proofs.Sound.{holds-below}

pub lowered_after : (old mid new : Octagon) (r c : ℕ) (v : ℤ) (m : Entries) → Becomes old mid m → Becomes mid new (lowered (entries mid) r c v) → Becomes old new (lowered m r c v)
lowered_after old mid new r c v m a b = record {
  size = b.size ∙ a.size;
  entries_are = λ i j hi hj.
      b.entries_are i j (omega (arith, a.size)) (omega (arith, a.size)) ∙ ap (λ z. cond (is_pair r c i j) (int_min v z) z) (a.entries_are i j hi hj);
}

pub with_pair_after : (old mid new : Octagon) (r c : ℕ) (v : ℤ) (m : Entries) → Becomes old mid m → Becomes mid new (with_pair (entries mid) r c v) → Becomes old new (with_pair m r c v)
with_pair_after old mid new r c v m a b = record {
  size = b.size ∙ a.size;
  entries_are = λ i j hi hj.
      b.entries_are i j (omega (arith, a.size)) (omega (arith, a.size)) ∙ ap (λ z. cond (is_pair r c i j) v z) (a.entries_are i j hi hj);
}

-- ---- points

-- what an octagon becomes holds what its entries hold
pub becomes_holds : (old new : Octagon) (m : Entries) (p : Point) → Becomes old new m → Holds (rows old) m p → OctagonHolds new p
becomes_holds old new m p is h = record {
  within = λ r c hr hc bound.
      let e = is.entries_are r c (omega (arith, is.size)) (omega (arith, is.size)) in
      omega (arith, ints, e, h.within r c (omega (arith, is.size)) (omega (arith, is.size)) (subst IsBound e bound));
}

-- a greater octagon holds more
pub le_holds : (a b : Octagon) (p : Point) → a.size ≡ b.size → octagon_le a b ≡ true → OctagonHolds a p → OctagonHolds b p
le_holds a b p same le h =
    subst (λ (n : ℕ). Holds (2 * n) (entries b) p) same (holds-below (rows a) (entries a) (entries b) p (below_from_test (rows a) (entries a) (entries b) le) h)

-- and the other way round
pub becomes_held : (old new : Octagon) (m : Entries) (p : Point) → Becomes old new m → OctagonHolds new p → Holds (rows old) m p
becomes_held old new m p is h = record {
  within = λ r c hr hc bound.
      let e = is.entries_are r c hr hc in
      omega (arith, ints, e, h.within r c (omega (arith, hr, is.size)) (omega (arith, hc, is.size)) (omega (arith, ints, e, bound)));
}
