-- What tells namesakes, and what the numbering keeps.
use Rattle.std.specs.Prelude.{◌≡◌, ℕ, Bool, false, not, ◌&&◌, ◌==◌, List, Option, Some, None, if◌then◌else◌, unwrap_or}
use Rattle.indexmap.specs.IndexMap.{get}
use Rattle.sp_types.specs.Types.{Struct}
use Rattle.sp_link_agreement.specs.Depths.{struct_at}
use Rattle.sp_link_agreement.specs.Inner.{same_entity}
use Rattle.sp_link_structs.specs.Matched.{first_where}
use Rattle.sp_link_structs.specs.Groups.{Key, same_key, head_key}
use Rattle.sp_link_structs.specs.declared.heads.Heads.{Heads}
use Rattle.sp_link_structs.specs.declared.numbers.Numbering.{Numbering}

abbrev pub has_head : List (List Struct) → Key → ℕ × ℕ → Bool
has_head us k y = same_key (head_key (struct_at us y)) k

abbrev pub is_apart : Option (ℕ × ℕ) → ℕ × ℕ → Bool
is_apart None y = false
is_apart (Some f) y = not (y.0 == f.0)

-- the first of each head in a list, and the first of another unit than that one
abbrev pub AreFirsts : List (List Struct) → List (ℕ × ℕ) → (Key → Option (ℕ × ℕ)) → Type 0
AreFirsts us turn firsts = (k : Key) → firsts k ≡ first_where (has_head us k) turn

abbrev pub AreSeconds : List (List Struct) → List (ℕ × ℕ) → (Key → Option (ℕ × ℕ)) → (Key → Option (ℕ × ℕ)) → Type 0
AreSeconds us turn firsts seconds =
    (k : Key) → seconds k ≡ first_where (λ y. has_head us k y && is_apart (firsts k) y) turn

abbrev pub IsHeads : List (List Struct) → List (ℕ × ℕ) → Heads → Type 0
IsHeads us turn h =
    AreFirsts us turn (get same_key h.firsts)
    × AreSeconds us turn (get same_key h.firsts) (get same_key h.seconds)

-- the first of a head in another unit, by the maps
abbrev pub elsewhere_from : Option (ℕ × ℕ) → Option (ℕ × ℕ) → ℕ × ℕ → Option (ℕ × ℕ)
elsewhere_from None second x = None
elsewhere_from (Some f) second x = if not (f.0 == x.0) then Some f else second

abbrev pub elsewhere_by : Heads → Key → ℕ × ℕ → Option (ℕ × ℕ)
elsewhere_by h k x = elsewhere_from (get same_key h.firsts k) (get same_key h.seconds k) x

-- the number of a struct, by the maps of a numbering
abbrev pub number_by : Numbering → ℕ × ℕ → ℕ
number_by n x = unwrap_or (get same_entity n.places (unwrap_or (get same_entity n.stand_ins x) x)) 0
