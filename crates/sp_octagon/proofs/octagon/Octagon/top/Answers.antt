use Rattle.std.proofs.Common.{◌≡◌, ◌⊎◌, inl, inr, ℕ, ◌<◌, ◌==◌, true, false, pos, ◌≤ℤ◌, refl, subst, arith}
use Rattle.std.proofs.lemmas.Int.{ints}
use Rattle.std.proofs.lemmas.Bool.Decides.{nat_tests}
use Rattle.sp_octagon.specs.declared.octagon.Octagon.{Octagon}
use Rattle.sp_octagon.specs.Entries.{entries_of}
use Rattle.sp_octagon.specs.Changes.{no_bounds}
use Rattle.sp_octagon.specs.Octagons.{rows, entries}
use Rattle.sp_octagon.proofs.Numbers.{which}
use Rattle.sp_octagon.proofs.OrderLaws.{test_from_below}
use Rattle.sp_octagon.proofs.HalfOrder.{boundless-is}
use Rattle.sp_octagon.proofs.octagon.Octagon.top.Goals as goal

same_row : (i j : ℕ) → (i == j) ≡ true → i ≡ j
same_row i j h = grind (arith, nat_tests)

below_none : (o : Octagon) (i j : ℕ) → i < 16 → j < 16 → entries o i j ≤ℤ no_bounds i j
below_none o i j hi hj = by (which (i == j))
  where
    by : ((i == j) ≡ true) ⊎ ((i == j) ≡ false) → entries o i j ≤ℤ no_bounds i j
    by (inl t) =
        let on : no_bounds i j ≡ no_bounds i i = subst (λ (k : ℕ). no_bounds i k ≡ no_bounds i i) (same_row i j t) refl in
        let here : entries o i j ≡ entries o i i = subst (λ (k : ℕ). entries o i k ≡ entries o i i) (same_row i j t) refl in
        let nought : no_bounds i j ≡ pos 0 = rw t refl in
        omega (arith, ints, nought, here, o.facts.matrix.diagonal i hi)
    by (inr t) =
        let off = (o.facts.matrix.in_range i j hi hj).most in
        rw t off

pub returns-clause-greatest : goal.returns-clause-greatest
returns-clause-greatest c = λ other same.
    test_from_below (rows other) (entries other) (entries_of c.change_entries.new.cells)
    (λ i j hi hj.
    let row : i < 16 = omega (arith, other.facts.few) in
    let column : j < 16 = omega (arith, other.facts.few) in
    rw (c.change_entries.ensures.inside i j row column) (below_none other i j row column))

pub returns-clause-value : goal.returns-clause-value
returns-clause-value c = boundless-is _ c.args.n refl c.change_entries.ensures.inside
