-- The objects of units, one after another, as they are joined.
use Rattle.std.proofs.Common.{◌≡◌, ℕ, zero, suc, ◌+◌, length, List, [], ◌∷◌, Some, refl, subst, arith}
use Rattle.std.specs.Prelude.{slice_get, slice_index_or}
use Rattle.sp_types.specs.Programs.{Object as TypedObject}
use Rattle.sp_base_checked.specs.Units.{CheckedUnit}
use Rattle.sp_link_entries.specs.Entries.{Joined, Numbers}
use Rattle.sp_link_entries.specs.Objects.{owned_by, is_dropped, next_object}
use Rattle.sp_link_entries.specs.Units.{unit_joined, next_unit}
use Rattle.sp_link_names_laws.proofs.Numbered.{pushed_length, next_longer}

-- `ss` are the program's numbers of the structs of the unit `u`, which is `x`
module _ (ss : List ℕ) (u : ℕ) (x : CheckedUnit) where
  -- the objects that the unit's functions own
  abbrev pub owned : List ℕ
  owned = owned_by x.functions x.definitions

  -- these are the objects behind those with numbers
  abbrev pub AreNext : List TypedObject → List ℕ × Joined → Type 0
  AreNext os y = (i : ℕ) (o : TypedObject) → slice_get os i ≡ Some o → slice_get x.objects (length y.0 + i) ≡ Some o

  abbrev pub behind : List ℕ × Joined → TypedObject → List ℕ × Joined
  behind y o = next_object x.structs ss u y (is_dropped owned (length y.0) o.storage) o

  pub first_next : (o : TypedObject) (os : List TypedObject) (y : List ℕ × Joined) → AreNext (o ∷ os) y
      → slice_get x.objects (length y.0) ≡ Some o
  first_next o os y w = subst (λ n. slice_get x.objects n ≡ Some o) (omega arith) (w zero o refl)

  pub others_next : (o : TypedObject) (os : List TypedObject) (y : List ℕ × Joined) → AreNext (o ∷ os) y
      → AreNext os (behind y o)
  others_next o os y w i p e =
      let longer : length (behind y o).0 ≡ length y.0 + 1 =
      next_longer x.structs ss owned u y (is_dropped owned (length y.0) o.storage) o in
      let place : length y.0 + suc i ≡ length (behind y o).0 + i = omega (arith, longer) in
      subst (λ n. slice_get x.objects n ≡ Some p) place (w (suc i) p e)

module _ (xs : List CheckedUnit) (sss : List (List ℕ)) where
  -- these are the units behind those with numbers
  abbrev pub AreBehind : List CheckedUnit → List Numbers × Joined → Type 0
  AreBehind ws y = (i : ℕ) (x : CheckedUnit) → slice_get ws i ≡ Some x → slice_get xs (length y.0 + i) ≡ Some x

  pub first_behind : (x : CheckedUnit) (ws : List CheckedUnit) (y : List Numbers × Joined) → AreBehind (x ∷ ws) y
      → slice_get xs (length y.0) ≡ Some x
  first_behind x ws y w = subst (λ n. slice_get xs n ≡ Some x) (omega arith) (w zero x refl)

  pub others_behind : (x : CheckedUnit) (ws : List CheckedUnit) (y : List Numbers × Joined) → AreBehind (x ∷ ws) y
      → AreBehind ws (next_unit sss y x)
  others_behind x ws y w i z e =
      let longer : length (next_unit sss y x).0 ≡ length y.0 + 1 =
      pushed_length y.0 (unit_joined (slice_index_or sss (length y.0) []) (length y.0) y.1 x).0 in
      let place : length y.0 + suc i ≡ length (next_unit sss y x).0 + i = omega (arith, longer) in
      subst (λ n. slice_get xs n ≡ Some z) place (w (suc i) z e)
