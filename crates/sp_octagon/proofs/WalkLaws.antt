-- Walks: joined, turned round, and of lesser entries; the least of them.
use Rattle.std.proofs.Common.{◌≡◌, ◌⊎◌, inl, inr, ℕ, ◌<◌, ℤ, ◌+ℤ◌, ◌≤ℤ◌, ◌<ℤ◌, refl, sym, ap, ◌∙◌, subst, arith}
use Rattle.std.proofs.lemmas.Int.{ints}
use Rattle.sp_octagon.specs.Entries.{Entries, unbounded, IsBound, negative}
use Rattle.sp_octagon.specs.Walks.{Walk, entry, onward, IsLeastWalk}
use Rattle.sp_octagon.specs.Order.{Below}
use Rattle.sp_octagon.proofs.Numbers.{below_or_not}

-- one walk, and another from where it ends
pub walk_joined : (count : ℕ) (m : Entries) (from mid to : ℕ) (v w : ℤ) → Walk count m from mid v → Walk count m mid to w → Walk count m from to (v +ℤ w)
walk_joined count m from mid to v w p (entry low bound is) = onward p low bound (ap (λ x. v +ℤ x) is)
walk_joined count m from mid to v w p (onward {mid = j} {before = u} q low bound is) =
    onward (walk_joined count m from mid j v u p q) low bound (omega (arith, ints, is))

-- a walk of the same weight, where the weights are only equal by arithmetic
pub walk_same : (count : ℕ) (m : Entries) (from to : ℕ) (v w : ℤ) → v ≡ w → Walk count m from to v → Walk count m from to w
walk_same count m from to v w e p = subst (λ (x : ℤ). Walk count m from to x) e p

module _ (count : ℕ) (m : Entries) (closed : (r : ℕ) → r < count → negative r < count) (coherent : (r c : ℕ) → r < count → c < count → m (negative c) (negative r) ≡ m r c) where
  -- the same entries the other way round, each for its equal
  pub walk_reversed : (from to : ℕ) (w : ℤ) → from < count → Walk count m from to w → Walk count m (negative to) (negative from) w
  walk_reversed from to w here (entry low bound is) =
      let same = coherent from to here low in
      entry (closed from here) (subst IsBound (sym same) bound) (is ∙ sym same)
  walk_reversed from to w here (onward {mid = j} {before = u} p low bound is) =
      let same = coherent j to (walk_end from j u p) low in
      let last : Walk count m (negative to) (negative j) (m j to) = entry (closed j (walk_end from j u p)) (subst IsBound (sym same) bound) (sym same) in
      walk_same count m (negative to) (negative from) (m j to +ℤ u) w (omega (arith, ints, is))
      (walk_joined count m (negative to) (negative j) (negative from) (m j to) u last (walk_reversed from j u here p))
    where
      walk_end : (a b : ℕ) (v : ℤ) → Walk count m a b v → b < count
      walk_end a b v (entry below e f) = below
      walk_end a b v (onward q below e f) = below

-- a walk of entries, where lesser ones stand, has a walk of no more weight there
pub record LesserWalk (count : ℕ) (m : Entries) (from to : ℕ) (w : ℤ) : Type 0 where
  pub weight : ℤ
  pub walk : Walk count m from to weight
  pub le : weight ≤ℤ w

module _ (count : ℕ) (a b : Entries) (below : Below count a b) where
  pub walk_below : (from to : ℕ) (w : ℤ) → from < count → Walk count b from to w → LesserWalk count a from to w
  walk_below from to w here (entry low bound is) =
      let le = below from to here low in
      record { weight = a from to; walk = entry low (omega (arith, ints, le, bound)) refl; le = omega (arith, ints, le, is) }
  walk_below from to w here (onward {mid = j} {before = u} p low bound is) =
      let le = below j to (walk_end from j u p) low in
      let l = walk_below from j u here p in
      record { weight = l.weight +ℤ a j to; walk = onward l.walk low (omega (arith, ints, le, bound)) refl; le = omega (arith, ints, le, is, l.le) }
    where
      walk_end : (f t : ℕ) (v : ℤ) → Walk count b f t v → t < count
      walk_end f t v (entry low' e g) = low'
      walk_end f t v (onward q low' e g) = low'

-- of lesser entries the least walk is no greater
pub least_walk-le : (count : ℕ) (a b : Entries) (from to : ℕ) (d e : ℤ) → Below count a b → from < count → IsLeastWalk count a from to d → IsLeastWalk count b from to e → d ≤ℤ e
least_walk-le count a b from to d e below here least other = by (below_or_not e unbounded)
  where
    by : (e <ℤ unbounded) ⊎ (unbounded ≤ℤ e) → d ≤ℤ e
    by (inl bound) = let l = walk_below count a b below from to e here (other.reached bound) in omega (arith, ints, l.le, (least.least l.weight l.walk).1)
    by (inr none) = omega (arith, ints, none, least.most)

pub least_walk_unique : (count : ℕ) (m : Entries) (from to : ℕ) (d e : ℤ) → IsLeastWalk count m from to d → IsLeastWalk count m from to e → d ≡ e
least_walk_unique count m from to d e least other =
    let there = le d e least other in
    let back = le e d other least in
    omega (arith, ints, there, back)
  where
    le : (f g : ℤ) → IsLeastWalk count m from to f → IsLeastWalk count m from to g → f ≤ℤ g
    le f g x y = by (below_or_not g unbounded)
      where
        by : (g <ℤ unbounded) ⊎ (unbounded ≤ℤ g) → f ≤ℤ g
        by (inl bound) = (x.least g (y.reached bound)).1
        by (inr none) = omega (arith, ints, none, x.most)
