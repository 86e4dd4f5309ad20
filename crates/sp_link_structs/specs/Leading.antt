-- What the search for the leaders of structs keeps.
use Rattle.std.specs.Prelude.{◌≡◌, ℕ, Bool, true, false, ◌&&◌, ◌||◌, ◌==◌, nat_lt, List, if◌then◌else◌, unwrap_or}
use Rattle.std.specs.List.{list_any}
use Rattle.indexmap.specs.IndexMap.{get}
use Rattle.sp_types.specs.Types.{Struct}
use Rattle.sp_link_agreement.specs.Depths.{struct_at}
use Rattle.sp_link_agreement.specs.Inner.{same_entity}
use Rattle.sp_link_structs.specs.Joined.{is_complete, Joined}
use Rattle.sp_link_structs.specs.Groups.{full_key}
use Rattle.sp_link_structs.specs.declared.leaders.Leaders.{Leaders}

-- the leader of a struct, by the map
abbrev pub leader_by : Leaders → ℕ × ℕ → ℕ × ℕ
leader_by t x = unwrap_or (get same_entity t.others x) x

-- by unit, then number
abbrev pub is_before : ℕ × ℕ → ℕ × ℕ → Bool
is_before x y = nat_lt x.0 y.0 || x.0 == y.0 && nat_lt x.1 y.1

abbrev pub earlier : ℕ × ℕ → ℕ × ℕ → ℕ × ℕ
earlier x y = if is_before y x then y else x

abbrev pub later : ℕ × ℕ → ℕ × ℕ → ℕ × ℕ
later x y = if is_before y x then x else y

-- what leads a struct that another has led, where those of a list get a new leader for an old one
abbrev pub moved : List (ℕ × ℕ) → ℕ × ℕ → ℕ × ℕ → ℕ × ℕ → ℕ × ℕ → ℕ × ℕ
moved xs old new x leader =
    if list_any (same_entity x) xs && same_entity leader old then new else leader

-- each struct is joined with its leader, which isn't behind it
abbrev pub IsLeading : List (List Struct) → (ℕ × ℕ → ℕ × ℕ) → Type 0
IsLeading us leader =
    ((x : ℕ × ℕ) → Joined us x (leader x)) × ((x : ℕ × ℕ) → is_before x (leader x) ≡ false)

-- structs with members that have one leader still have one
abbrev pub KeepsOne : List (List Struct) → (ℕ × ℕ → ℕ × ℕ) → (ℕ × ℕ → ℕ × ℕ) → Type 0
KeepsOne us old new = (x y : ℕ × ℕ) → is_complete us x ≡ true → is_complete us y ≡ true
    → old x ≡ old y → new x ≡ new y

-- it has members and the key of another struct
abbrev pub IsAlike : List (List Struct) → ℕ × ℕ → ℕ × ℕ → Type 0
IsAlike us x p =
    (is_complete us p ≡ true) × (full_key (struct_at us p) ≡ full_key (struct_at us x))
