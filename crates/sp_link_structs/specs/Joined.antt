-- Which structs with members are one struct of their program (C90 6.1.2.6).
use Rattle.std.specs.Prelude.{◌≡◌, ℕ, ◌<◌, Bool, true, false, List, Option, None, Some, is_some}
use Rattle.sp_types.specs.Types.{Struct}
use Rattle.sp_link_agreement.specs.Depths.{struct_at, Agree}

abbrev pub has_members : Option Struct → Bool
has_members None = false
has_members (Some s) = is_some s.members

abbrev pub is_complete : List (List Struct) → ℕ × ℕ → Bool
is_complete us x = has_members (struct_at us x)

-- A step: two structs with members that agree, the second of a later unit. So no step joins two
-- structs of one unit.
abbrev pub IsStep : List (List Struct) → ℕ × ℕ → ℕ × ℕ → Type 0
IsStep us x y =
    (is_complete us x ≡ true) × (is_complete us y ≡ true) × (x.0 < y.0) × Agree us x y

-- Two structs are joined by a chain of steps, each in either direction. Agreement isn't transitive
-- where structs without members, lengths or parameter lists stand inside: so it may take a chain.
pub data Joined (us : List (List Struct)) (x : ℕ × ℕ) : ℕ × ℕ → Type 0 where
  itself : {y : ℕ × ℕ} → x ≡ y → Joined us x y
  onward : {y : ℕ × ℕ} (z : ℕ × ℕ) → Joined us x z → IsStep us z y → Joined us x y
  backward : {y : ℕ × ℕ} (z : ℕ × ℕ) → Joined us x z → IsStep us y z → Joined us x y
