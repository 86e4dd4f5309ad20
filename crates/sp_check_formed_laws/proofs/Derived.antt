-- The types that declarators derive (C90 6.5.4).
use Rattle.std.proofs.Common.{◌≡◌, ℕ, ◌≤◌, zero, ℤ, pos, negsuc, ◌-◌, ◌^◌, nat_le, ◌&&◌, if◌then◌else◌, Bool, true, false, length, List, [], ◌∷◌, ◌++◌, Option, Some, None, refl, subst}
use Rattle.std.proofs.lemmas.Bool.{leb-true}
use Rattle.std.specs.Prelude.{⊤}
use Rattle.sp_tree.specs.declared.fault.Place.{Place}
use Rattle.sp_types.specs.Types.{CType, void, integer, floating, pointer, array, structure, function, signature, Struct}
use Rattle.sp_types.specs.View.{types}
use Rattle.sp_types.specs.Layout.{layout}
use Rattle.sp_types.specs.Structs.{IsFormed, AreFormedParameters, AreFormed}
use Rattle.sp_check_operands.specs.Conversions.{is_function}
use Rattle.sp_check_binary_rules.specs.Lengths.{length_from, length_given}
use Rattle.sp_check_type_names.specs.Derivations.{Derivation, to_pointer, to_array, to_function, derive, derived, made, derivations_in, parts_in}
use Rattle.sp_check_members.specs.Parameters.{adjusted}
use Rattle.sp_check_formed_laws.proofs.Lists.{some_is, none_some, Each, each_behind}
use Rattle.sp_check_formed_laws.proofs.Longer.{parameters_longer}
use Rattle.sp_check_formed_laws.proofs.Composites.{array_formed, element_formed}
use Rattle.sp_check_formed_laws.proofs.After.{Gives, gives, gives_then, gives_met, gives_given}

-- ---- lengths

and_left : (a b : Bool) → (a && b) ≡ true → a ≡ true
and_left true b h = refl
and_left false b h = h

pub length_positive : (z : Option ℤ) (p : Place) → Gives (λ n. 1 ≤ n) (length_given z p)
length_positive z p = gives_given {o = z} _ _ (λ z e. gives_given {o = length_from z} _ _ (λ n g. gives (by z n g)))
  where
    some : (m n : ℕ) (b : Bool) → (nat_le 1 m && nat_le m (2 ^ 31 - 1)) ≡ b → (if b then Some m else None) ≡ Some n → 1 ≤ n
    some m n true h g = subst (λ k. 1 ≤ k) (some_is m n g) (leb-true 1 m (and_left (nat_le 1 m) (nat_le m (2 ^ 31 - 1)) h))
    some m n false h g = absurd (none_some n g)

    by : (z : ℤ) (n : ℕ) → length_from z ≡ Some n → 1 ≤ n
    by (pos m) n g = some m n (nat_le 1 m && nat_le m (2 ^ 31 - 1)) refl g
    by (negsuc m) n g = absurd (none_some n g)

-- ---- derivations

-- lengths are at least 1, and the types of parameters are formed
abbrev pub IsFormedStep : List Struct → Derivation → Type 0
IsFormedStep ss to_pointer = ⊤
IsFormedStep ss (to_array None p) = ⊤
IsFormedStep ss (to_array (Some n) p) = 1 ≤ n
IsFormedStep ss (to_function ps dots p) = AreFormedParameters ss ps

pub step_longer : (ss rs : List Struct) → length ss ≤ length rs → (d : Derivation) → IsFormedStep ss d → IsFormedStep rs d
step_longer ss rs l to_pointer h = tt
step_longer ss rs l (to_array None p) h = tt
step_longer ss rs l (to_array (Some n) p) h = h
step_longer ss rs l (to_function ps dots p) h = parameters_longer ss rs l ps h

-- whether the last of these derivations makes a function; where there is none, whether they begin
-- with one
abbrev pub is_to_function : Derivation → Bool
is_to_function to_pointer = false
is_to_function (to_array n p) = false
is_to_function (to_function ps dots p) = true

abbrev pub ends_in_function : List Derivation → Bool → Bool
ends_in_function [] whole = whole
ends_in_function (d ∷ ds) whole = is_to_function d

pub ends_behind : (ds : List Derivation) (d : Derivation) (whole : Bool) → ends_in_function (ds ++ d ∷ []) whole ≡ ends_in_function ds (is_to_function d)
ends_behind [] d whole = refl
ends_behind (e ∷ ds) d whole = refl

module _ (ss : List Struct) where
  abbrev Made : Bool → CType → Type 0
  Made is-function u = IsFormed ss u × (is_function u ≡ is-function)

  step_made : (d : Derivation) (t : CType) → IsFormedStep ss d → IsFormed ss t → Gives (Made (is_to_function d)) (derive ss d t)
  step_made to_pointer t h f = gives {x = pointer t} (f, refl)
  step_made (to_array None p) t h f = gives_given {o = layout ss t} _ _ (λ e g. gives {x = array t None} (f, refl))
  step_made (to_array (Some n) p) t h f = gives_given {o = layout ss t} _ _ (λ e g. gives_met _ _ (λ small. gives {x = array t (Some n)} (array_formed ss t n f h, refl)))
  step_made (to_function ps dots p) t h f = gives_met _ _ (λ fits. gives {x = function (signature t ps dots)} ((f, h), refl))

  steps_made : (ds : List Derivation) (t : CType) → Each (IsFormedStep ss) ds → IsFormed ss t → Gives (Made (ends_in_function ds (is_function t))) (derived ss ds t)
  steps_made [] t h f = gives {x = t} (f, refl)
  steps_made (d ∷ ds) t h f = gives_then (steps_made ds t (each_behind (IsFormedStep ss) d ds h) f) (λ u g. step_made d u (h zero d refl) g.0)

  pub type_made : (p : Place) (ds : List Derivation) (t : CType) → Each (IsFormedStep ss) ds → IsFormed ss t → Gives (Made (ends_in_function ds (is_function t))) (made ss p ds t)
  type_made p ds t h f = gives_then (steps_made ds t h f) (λ u g. gives_met {b = nat_le (derivations_in u) 200} _ _ (λ shallow.
      gives_met {b = nat_le (parts_in u) 1000} _ _ (λ few. gives g)))

  -- ---- parameters

  pub types_formed : (ts : List CType) → Each (IsFormed ss) ts → AreFormed ss (types ts)
  types_formed [] h = tt
  types_formed (t ∷ ts) h = (h zero t refl, types_formed ts (each_behind (IsFormed ss) t ts h))

  pub adjusted_formed : (t : CType) → IsFormed ss t → IsFormed ss (adjusted t) × (is_function (adjusted t) ≡ false)
  adjusted_formed void h = (tt, refl)
  adjusted_formed (integer k) h = (tt, refl)
  adjusted_formed (floating k) h = (tt, refl)
  adjusted_formed (pointer t) h = (h, refl)
  adjusted_formed (array t n) h = (element_formed ss t n h, refl)
  adjusted_formed (structure k) h = (h, refl)
  adjusted_formed (function s) h = (h, refl)
