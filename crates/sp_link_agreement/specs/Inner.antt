-- The pairs of structs on which it rests whether two structs agree.
use Rattle.std.specs.Prelude.{ℕ, Bool, true, ◌&&◌, ◌==◌, List, [], ◌∷◌, ◌++◌, map, Option, Some}
use Rattle.sp_types.specs.Types.{CType, pointer, array, structure, function, Signature, signature, Parameters, listed, CTypes, next_type, Struct}
use Rattle.sp_link_agreement.specs.Depths.{struct_at, found_agree}

-- any two structs pass
abbrev pub any_two : ℕ → ℕ → Bool
any_two k j = true

-- the structs at the same places of two types
abbrev mutual
  pub inner : CType → CType → List (ℕ × ℕ)
  inner (pointer a) (pointer b) = inner a b
  inner (array a n) (array b m) = inner a b
  inner (structure a) (structure b) = (a, b) ∷ []
  inner (function a) (function b) = inner_of_signatures a b
  inner _ _ = []

  pub inner_of_signatures : Signature → Signature → List (ℕ × ℕ)
  inner_of_signatures (signature r ps v) (signature q qs w) = inner r q ++ inner_of_parameters ps qs

  pub inner_of_parameters : Parameters → Parameters → List (ℕ × ℕ)
  inner_of_parameters (listed ts) (listed us) = inner_of_types ts us
  inner_of_parameters _ _ = []

  pub inner_of_types : CTypes → CTypes → List (ℕ × ℕ)
  inner_of_types (next_type t ts) (next_type u us) = inner t u ++ inner_of_types ts us
  inner_of_types _ _ = []

abbrev pub inner_of_members : List (ℕ × CType) → List (ℕ × CType) → List (ℕ × ℕ)
inner_of_members (m ∷ ms) (k ∷ ks) = inner m.1 k.1 ++ inner_of_members ms ks
inner_of_members _ _ = []

abbrev pub inner_of_contents : Option (List (ℕ × CType)) → Option (List (ℕ × CType)) → List (ℕ × ℕ)
inner_of_contents (Some ms) (Some ks) = inner_of_members ms ks
inner_of_contents _ _ = []

abbrev pub inner_of_structs : Option Struct → Option Struct → List (ℕ × ℕ)
inner_of_structs (Some s) (Some t) = inner_of_contents s.members t.members
inner_of_structs _ _ = []

abbrev pub Pair : Type 0
Pair = (ℕ × ℕ) × (ℕ × ℕ)

-- whether two structs agree apart from the structs inside
abbrev pub is_alike : List (List Struct) → Pair → Bool
is_alike us p = found_agree any_two (struct_at us p.0) (struct_at us p.1)

-- a pair of numbers in the units of this pair
abbrev pub beside : Pair → ℕ × ℕ → Pair
beside p q = ((p.0.0, q.0), (p.1.0, q.1))

-- the pairs on which the pair rests
abbrev pub inner_pairs : List (List Struct) → Pair → List Pair
inner_pairs us p = map (beside p) (inner_of_structs (struct_at us p.0) (struct_at us p.1))

abbrev pub same_entity : ℕ × ℕ → ℕ × ℕ → Bool
same_entity x y = x.0 == y.0 && x.1 == y.1

abbrev pub same_pair : Pair → Pair → Bool
same_pair p q = same_entity p.0 q.0 && same_entity p.1 q.1
