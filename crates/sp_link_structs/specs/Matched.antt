-- Which structs of several units are one struct of their program (C90 6.1.2.6).
use Rattle.std.specs.Prelude.{◌≡◌, ℕ, suc, Bool, true, false, not, ◌&&◌, ◌==◌, List, [], ◌∷◌, ◌++◌, map, filter, if◌then◌else◌, Option, Some, None, ◌⊎◌, unwrap_or}
use Rattle.std.specs.List.{position_from}
use Rattle.std.specs.Map.{lookup}
use Rattle.sp_types.specs.Types.{Struct}
use Rattle.sp_link_structs.specs.Matching.{Matching}
use Rattle.sp_link_agreement.specs.Agreement.{same_head}
use Rattle.sp_link_agreement.specs.Depths.{struct_at}
use Rattle.sp_link_agreement.specs.Inner.{same_entity}
use Rattle.sp_link_structs.specs.Joined.{is_complete, Joined}

-- ---- the order in which structs are taken

-- the structs of a unit, from a number on
abbrev pub of_unit : ℕ → ℕ → List Struct → List (ℕ × ℕ)
of_unit u k [] = []
of_unit u k (s ∷ ss) = (u, k) ∷ of_unit u (suc k) ss

-- those of all units, from a unit on
abbrev pub of_units : ℕ → List (List Struct) → List (ℕ × ℕ)
of_units u [] = []
of_units u (ss ∷ us) = of_unit u 0 ss ++ of_units (suc u) us

-- those with members first
abbrev pub in_turn : List (List Struct) → List (ℕ × ℕ)
in_turn us =
    filter (is_complete us) (of_units 0 us) ++ filter (λ x. not (is_complete us x)) (of_units 0 us)

-- ---- namesakes

abbrev pub heads_agree : Option Struct → Option Struct → Bool
heads_agree (Some s) (Some t) = same_head s t
heads_agree _ _ = false

-- two structs of one tag, or none, both structs or both unions
abbrev pub are_namesakes : List (List Struct) → ℕ × ℕ → ℕ × ℕ → Bool
are_namesakes us y x = heads_agree (struct_at us y) (struct_at us x)

abbrev pub first_where : {A : Type 0} → (A → Bool) → List A → Option A
first_where test [] = None
first_where test (x ∷ xs) = if test x then Some x else first_where test xs

-- the first namesake, and the first of another unit
abbrev pub first_namesake : List (List Struct) → ℕ × ℕ → Option (ℕ × ℕ)
first_namesake us x = first_where (λ y. are_namesakes us y x) (in_turn us)

abbrev pub first_elsewhere : List (List Struct) → ℕ × ℕ → Option (ℕ × ℕ)
first_elsewhere us x = first_where (λ y. are_namesakes us y x && not (y.0 == x.0)) (in_turn us)

-- ---- structs with members

-- the first of a list of which it holds, where there is one
abbrev pub IsFirst : {A : Type 0} → (A → Type 0) → List A → Option A → Type 0
IsFirst Holds [] r = r ≡ None
IsFirst Holds (x ∷ xs) r = (Holds x × (r ≡ Some x)) ⊎ ((¬ Holds x) × IsFirst Holds xs r)

-- Those that are joined are one struct. The first of them, by unit and number, leads each.
abbrev pub AreLeaders : List (List Struct) → (ℕ × ℕ → ℕ × ℕ) → Type 0
AreLeaders us leader = (x : ℕ × ℕ) → is_complete us x ≡ true
    → IsFirst (Joined us x) (of_units 0 us) (Some (leader x))

-- ---- which struct stands for each

abbrev pub own_stand_in : List (List Struct) → (ℕ × ℕ → ℕ × ℕ) → ℕ × ℕ → ℕ × ℕ
own_stand_in us leader y = if is_complete us y then leader y else y

abbrev pub stand_in_of : List (List Struct) → (ℕ × ℕ → ℕ × ℕ) → ℕ × ℕ → Option (ℕ × ℕ) → ℕ × ℕ
stand_in_of us leader x None = x
stand_in_of us leader x (Some y) = own_stand_in us leader y

-- A struct without members joins its first namesake of another unit, those with members first. That
-- one has none either only where it joins, as this one does, the first namesake of all.
abbrev pub open_stand_in : List (List Struct) → (ℕ × ℕ → ℕ × ℕ) → ℕ × ℕ → Option (ℕ × ℕ) → ℕ × ℕ
open_stand_in us leader x None = x
open_stand_in us leader x (Some y) =
    stand_in_of us leader x (if is_complete us y then Some y else first_namesake us x)

abbrev pub final_stand_in : List (List Struct) → (ℕ × ℕ → ℕ × ℕ) → ℕ × ℕ → ℕ × ℕ
final_stand_in us leader x =
    if is_complete us x then leader x
    else open_stand_in us leader x (first_elsewhere us x)

-- each struct with what stands for it
abbrev pub stand_ins : List (List Struct) → (ℕ × ℕ → ℕ × ℕ) → List ((ℕ × ℕ) × (ℕ × ℕ))
stand_ins us leader = map (λ x. (x, final_stand_in us leader x)) (of_units 0 us)

-- what a list of pairs has behind a struct, else the struct
abbrev pub stand_in : List ((ℕ × ℕ) × (ℕ × ℕ)) → ℕ × ℕ → ℕ × ℕ
stand_in ps x = unwrap_or (lookup (same_entity x) ps) x

-- ---- the structs of the program

-- those that stand for themselves, in the order of units and numbers
abbrev pub representatives : List (List Struct) → List ((ℕ × ℕ) × (ℕ × ℕ)) → List (ℕ × ℕ)
representatives us ps = filter (λ x. same_entity (stand_in ps x) x) (of_units 0 us)

-- the number in the program of a struct
abbrev pub number_among : List (ℕ × ℕ) → List ((ℕ × ℕ) × (ℕ × ℕ)) → ℕ × ℕ → ℕ
number_among rs ps x = unwrap_or (position_from (same_entity (stand_in ps x)) 0 rs) 0

-- those of the structs of each unit, from a unit on
abbrev pub numbers_of_units : (ℕ × ℕ → ℕ) → ℕ → List (List Struct) → List (List ℕ)
numbers_of_units number u [] = []
numbers_of_units number u (ss ∷ us) =
    map number (of_unit u 0 ss) ∷ numbers_of_units number (suc u) us

abbrev pub matched : List (List Struct) → List ((ℕ × ℕ) × (ℕ × ℕ)) → Matching
matched us ps = record {
  structs = representatives us ps;
  numbers = numbers_of_units (number_among (representatives us ps) ps) 0 us;
}

-- each struct of these units with what stands for it in their program
abbrev pub AreStandIns : List (List Struct) → List ((ℕ × ℕ) × (ℕ × ℕ)) → Type 0
AreStandIns us ps =
    (leader : ℕ × ℕ → ℕ × ℕ) × AreLeaders us leader × (ps ≡ stand_ins us leader)

-- the matching of the structs of these units
abbrev pub AreMatched : List (List Struct) → Matching → Type 0
AreMatched us m = (ps : List ((ℕ × ℕ) × (ℕ × ℕ))) × AreStandIns us ps × (m ≡ matched us ps)
