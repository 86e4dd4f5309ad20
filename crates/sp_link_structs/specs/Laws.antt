-- What is settled by the definition of a matching.
use Rattle.std.specs.Prelude.{◌≡◌, ◌↔◌, ℕ, suc, true, false, List, [], ◌∷◌, Option, Some, is_some, ◌⊎◌, slice_get, slice_index_or}
use Rattle.sp_types.specs.Types.{Struct}
use Rattle.sp_link_structs.specs.Matching.{Matching}
use Rattle.sp_link_agreement.specs.Depths.{struct_at, Agree}
use Rattle.sp_link_structs.specs.Joined.{is_complete, Joined}
use Rattle.sp_link_structs.specs.Matched.{of_unit, of_units, IsFirst, AreMatched}

-- the structs of some units have one matching
abbrev pub MatchingsEqual : Type 0
MatchingsEqual =
    (us : List (List Struct)) (m n : Matching) → AreMatched us m → AreMatched us n → m ≡ n

-- the numbers of a list of structs, from a number on
abbrev pub numbers_from : ℕ → List Struct → List ℕ
numbers_from k [] = []
numbers_from k (s ∷ ss) = k ∷ numbers_from (suc k) ss

-- in a program of one unit each struct stands for itself and keeps its number
abbrev pub OneUnitStays : Type 0
OneUnitStays = (ss : List Struct) (m : Matching) → AreMatched (ss ∷ []) m →
    (m.structs ≡ of_unit 0 0 ss) × (m.numbers ≡ numbers_from 0 ss ∷ [])

-- the number that a matching gives a struct
abbrev pub number_of : Matching → ℕ × ℕ → Option ℕ
number_of m x = slice_get (slice_index_or m.numbers x.0 []) x.1

-- Each struct of a unit has a number in the program. The struct there is, where it has members, the
-- first of those that are joined with it; else it is the struct itself or agrees with it.
abbrev pub StructsAreNumbered : Type 0
StructsAreNumbered =
    (us : List (List Struct)) (m : Matching) (x : ℕ × ℕ) (s : Struct) → AreMatched us m
    → struct_at us x ≡ Some s
    → (n : ℕ) × (r : ℕ × ℕ) × (number_of m x ≡ Some n) × (slice_get m.structs n ≡ Some r)
    × (is_complete us x ≡ true → IsFirst (Joined us x) (of_units 0 us) (Some r))
    × (is_complete us x ≡ false → (r ≡ x) ⊎ Agree us r x)

-- two structs with members are one struct of the program where they are joined, and only there
abbrev pub JoinedAreOne : Type 0
JoinedAreOne =
    (us : List (List Struct)) (m : Matching) (x y : ℕ × ℕ) → AreMatched us m
    → is_complete us x ≡ true → is_complete us y ≡ true
    → (number_of m x ≡ number_of m y) ↔ Joined us x y

-- each struct of the program is one of a unit
abbrev pub StructsAreThere : Type 0
StructsAreThere = (us : List (List Struct)) (m : Matching) (n : ℕ) (r : ℕ × ℕ) → AreMatched us m
    → slice_get m.structs n ≡ Some r → is_some (struct_at us r) ≡ true
