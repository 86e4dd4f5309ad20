-- Types of two units, and when two structs of them agree (C90 6.1.2.6). Each unit has its own table
-- of structs, so structs of the two are compared by a relation of their numbers.
use Rattle.std.specs.Prelude.{ℕ, Bool, true, false, ◌&&◌, ◌==◌, List, [], ◌∷◌, Option, Some}
use Rattle.std.specs.Option.{option_eq}
use Rattle.sp_types.specs.Types.{CType, void, integer, floating, pointer, array, structure, function, Signature, signature, Parameters, listed, CTypes, no_types, next_type, Struct}
use Rattle.sp_types.specs.Compatible.{same_kind, same_float, same_flag, lengths_agree}

-- compatible types, with qualifiers left aside, where `agree` says which structs are compatible
abbrev mutual
  pub compatible_by : (ℕ → ℕ → Bool) → CType → CType → Bool
  compatible_by agree void void = true
  compatible_by agree (integer a) (integer b) = same_kind a b
  compatible_by agree (floating a) (floating b) = same_float a b
  compatible_by agree (pointer a) (pointer b) = compatible_by agree a b
  compatible_by agree (array a n) (array b m) = lengths_agree n m && compatible_by agree a b
  compatible_by agree (structure a) (structure b) = agree a b
  compatible_by agree (function a) (function b) = signatures_compatible_by agree a b
  compatible_by agree _ _ = false

  pub signatures_compatible_by : (ℕ → ℕ → Bool) → Signature → Signature → Bool
  signatures_compatible_by agree (signature r ps v) (signature q qs w) =
      compatible_by agree r q && parameters_compatible_by agree v w ps qs

  -- a list that isn't told fits any
  pub parameters_compatible_by : (ℕ → ℕ → Bool) → Bool → Bool → Parameters → Parameters → Bool
  parameters_compatible_by agree v w (listed ts) (listed us) =
      same_flag v w && all_compatible_by agree ts us
  parameters_compatible_by agree v w _ _ = true

  pub all_compatible_by : (ℕ → ℕ → Bool) → CTypes → CTypes → Bool
  all_compatible_by agree no_types no_types = true
  all_compatible_by agree (next_type t ts) (next_type u us) =
      compatible_by agree t u && all_compatible_by agree ts us
  all_compatible_by agree _ _ = false

-- the same names in the same order, with compatible types
abbrev pub members_agree : (ℕ → ℕ → Bool) → List (ℕ × CType) → List (ℕ × CType) → Bool
members_agree agree [] [] = true
members_agree agree (m ∷ ms) (k ∷ ks) =
    m.0 == k.0 && compatible_by agree m.1 k.1 && members_agree agree ms ks
members_agree agree _ _ = false

-- where one unit doesn't tell the members, they may be any
abbrev pub contents_agree :
    (ℕ → ℕ → Bool) → Option (List (ℕ × CType)) → Option (List (ℕ × CType)) → Bool
contents_agree agree (Some ms) (Some ks) = members_agree agree ms ks
contents_agree agree _ _ = true

-- the same tag, or none; two structs or two unions
abbrev pub same_head : Struct → Struct → Bool
same_head s t = option_eq (λ n m. n == m) s.tag t.tag && same_flag s.union t.union

abbrev pub structs_agree : (ℕ → ℕ → Bool) → Struct → Struct → Bool
structs_agree agree s t = same_head s t && contents_agree agree s.members t.members
