-- A row after the evaluation of its node.
use Rattle.std.proofs.Common.{◌≡◌, ℕ, ◌<◌, List, ◌++◌, length, take, drop, sym, ap, ◌∙◌, subst, arith}
use Rattle.std.proofs.lemmas.Grind.{common_steps}
use Rattle.sp_lattice.specs.Lattice.{Order, IsLattice}
use Rattle.sp_lattice.specs.System.{Meaning, IsSystem, Below, store_at, values_at, written}
use Rattle.sp_lattice.specs.Dense.{store_of}
use Rattle.sp_lattice.proofs.Stores.{kept_below, effect_written}
use Rattle.sp_dense.specs.inner.Visit.{IsStore}

module _ {V : Type 0} where
  -- what comes back of a list that was lent whole
  pub returned_whole : (lent back : List V) (n : ℕ) → length back ≡ n → length lent ≡ n → take n (back ++ drop (length back) lent) ≡ back
  returned_whole lent back n long lent_long = grind (arith, common_steps)

  -- the values that a row has at the uses of a node, as they are passed on
  pub values_passed : (bottom : V) (row lent taken passed : List V) (places uses : List ℕ) → lent ≡ row → places ≡ uses → taken ≡ values_at (store_of bottom lent) places → passed ≡ taken → passed ≡ values_at (store_of bottom row) uses
  values_passed bottom row lent taken passed places uses same same_places is is_taken =
      is_taken ∙ is ∙ ap (λ xs. values_at (store_of bottom xs) places) same ∙ ap (λ ps. values_at (store_of bottom row) ps) same_places

module _ {V : Type 0} (o : Order V) (m : Meaning V) (laws : IsLattice o) (sys : IsSystem o m) where
  -- the values of a row under the ceiling are under it
  pub passed_under : (n : ℕ) (row passed : List V) → Below o m (store_of o.bottom row) m.ceiling → passed ≡ values_at (store_of o.bottom row) (m.uses n) → Below o m (store_at o.bottom (m.uses n) passed) m.ceiling
  passed_under n row passed under is =
      subst (λ values. Below o m (store_at o.bottom (m.uses n) values) m.ceiling) (sym is) (kept_below o m laws sys (store_of o.bottom row) (m.uses n) under)

  -- the definitions, evaluated over the uses and written over the row, make it the effect of the row
  pub effect_of_row : (n : ℕ) (row new passed defined : List V) (places : List ℕ) → n < m.nodes → Below o m (store_of o.bottom row) m.ceiling → length row ≡ m.locations → length new ≡ m.locations → passed ≡ values_at (store_of o.bottom row) (m.uses n) → defined ≡ values_at (m.effect n (store_at o.bottom (m.uses n) passed)) (m.defs n) → places ≡ m.defs n
      → ((l : ℕ) → l < length row → store_of o.bottom new l ≡ written (store_of o.bottom row) places defined l)
      → IsStore o m new (m.effect n (store_of o.bottom row))
  effect_of_row n row new passed defined places low under long new_long is filled at over = record {
    long = new_long;
    values = λ l l_low.
        over l (omega (arith, long)) ∙ ap (λ ps. written (store_of o.bottom row) ps defined l) at
        ∙ effect_written o m laws sys n l (store_of o.bottom row) defined low l_low under (filled ∙ ap (λ values. values_at (m.effect n (store_at o.bottom (m.uses n) values)) (m.defs n)) is);
  }
