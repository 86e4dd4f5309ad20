-- What declarators derive from a type (C90 6.5.4).
use Rattle.std.specs.Prelude.{ℕ, suc, ◌+◌, max, nat_le, Bool, not, ◌||◌, List, [], ◌∷◌, Option}
use Rattle.sp_tree.specs.declared.fault.FaultKind.TheVariants.{BadOperand, NestingTooDeep, TooManyParts}
use Rattle.sp_tree.specs.declared.fault.Place.{Place}
use Rattle.sp_types.specs.Types.{CType, pointer, array, function, Signature, signature, Parameters, untold, listed, CTypes, no_types, next_type, Struct}
use Rattle.sp_base_checked.specs.Answers.{Checked, accepted, and_then, where_met}
use Rattle.sp_check_operands.specs.Conversions.{is_array, is_function}
use Rattle.sp_check_binary_rules.specs.Lengths.{made_array}

-- a pointer to the type; an array of it, with its length where one is given; a function that returns it. Each of the last two
-- with the place of its declarator
pub data Derivation : Type 0 where
  to_pointer : Derivation
  to_array : Option ℕ → Place → Derivation
  to_function : Parameters → Bool → Place → Derivation

-- 6.5.4.2, 6.5.4.3: elements are complete, and no function returns an array or a function
abbrev pub derive : List Struct → Derivation → CType → Checked CType
derive ss to_pointer t = accepted (pointer t)
derive ss (to_array n p) t = made_array ss t n p
derive ss (to_function ps dots p) t = where_met (not (is_array t || is_function t)) BadOperand p (accepted (function (signature t ps dots)))

-- the list goes from the name outwards: what stands last in it is derived first
abbrev pub derived : List Struct → List Derivation → CType → Checked CType
derived ss [] t = accepted t
derived ss (d ∷ ds) t = and_then (derived ss ds t) (λ u. derive ss d u)

-- ---- how many lie inside one another

-- a struct is one with its number, however deep it is
abbrev mutual
  pub derivations_in : CType → ℕ
  derivations_in (pointer t) = suc (derivations_in t)
  derivations_in (array t n) = suc (derivations_in t)
  derivations_in (function s) = suc (derivations_in_signature s)
  derivations_in _ = 0

  pub derivations_in_signature : Signature → ℕ
  derivations_in_signature (signature r ps dots) = max (derivations_in r) (derivations_in_parameters ps)

  pub derivations_in_parameters : Parameters → ℕ
  derivations_in_parameters untold = 0
  derivations_in_parameters (listed ts) = derivations_in_types ts

  pub derivations_in_types : CTypes → ℕ
  derivations_in_types no_types = 0
  derivations_in_types (next_type t ts) = max (derivations_in t) (derivations_in_types ts)

-- ---- how many parts a type has

-- a type itself, and the parts of each type that it is derived from; a struct is one
abbrev mutual
  pub parts_in : CType → ℕ
  parts_in (pointer t) = suc (parts_in t)
  parts_in (array t n) = suc (parts_in t)
  parts_in (function s) = suc (parts_in_signature s)
  parts_in _ = 1

  pub parts_in_signature : Signature → ℕ
  parts_in_signature (signature r ps dots) = parts_in r + parts_in_parameters ps

  pub parts_in_parameters : Parameters → ℕ
  parts_in_parameters untold = 0
  parts_in_parameters (listed ts) = parts_in_types ts

  pub parts_in_types : CTypes → ℕ
  parts_in_types no_types = 0
  parts_in_types (next_type t ts) = parts_in t + parts_in_types ts

-- the type of a whole declarator at this place: at most 200 derivations lie inside one another in it
-- (5.2.4.1 asks for 12), and it has at most 1000 parts
abbrev pub made : List Struct → Place → List Derivation → CType → Checked CType
made ss p ds t =
    and_then (derived ss ds t) (λ u.
    where_met (nat_le (derivations_in u) 200) NestingTooDeep p (
    where_met (nat_le (parts_in u) 1000) TooManyParts p
    (accepted u)))
