-- How the candidates for a struct are looked up: by what two structs that agree have in common.
use Rattle.std.specs.Prelude.{◌≡◌, ℕ, ◌+◌, ◌*◌, ◌%◌, ◌^◌, Bool, false, ◌&&◌, ◌==◌, List, [], ◌∷◌, filter, Option, Some, None, Vec}
use mathlib.Core.Bool.{beq}
use Rattle.std.specs.Option.{option_eq}
use Rattle.std.specs.declared.alloc.Global.{Global}
use Rattle.indexmap.specs.IndexMap.{get}
use Rattle.sp_types.specs.Types.{CType, Struct}
use Rattle.sp_link_agreement.specs.Depths.{struct_at}
use Rattle.sp_link_structs.specs.Joined.{is_complete}
use Rattle.sp_link_structs.specs.declared.groups.Groups.{Groups}

-- the tag, whether it is a union, and a mark of the names of its members
abbrev pub Key : Type 0
Key = Option ℕ × Bool × ℕ

abbrev pub same_key : Key → Key → Bool
same_key k j = option_eq (λ n m. n == m) k.0 j.0 && beq k.1 j.1 && k.2 == j.2

-- a mark of these names, behind the mark of those before
abbrev pub name_mark : ℕ → List (ℕ × CType) → ℕ
name_mark h [] = h
name_mark h (m ∷ ms) = name_mark (((h * 31) % 2 ^ 32 + m.0) % 2 ^ 32) ms

abbrev pub members_mark : Option (List (ℕ × CType)) → ℕ
members_mark None = 0
members_mark (Some ms) = name_mark 0 ms

-- by all three, for structs with members
abbrev pub full_key : Option Struct → Key
full_key None = (None, false, 0)
full_key (Some s) = (s.tag, s.union, members_mark s.members)

-- by the first two
abbrev pub head_key : Option Struct → Key
head_key None = (None, false, 1)
head_key (Some s) = (s.tag, s.union, 0)

abbrev pub items_of : Option (Vec (ℕ × ℕ) Global) → List (ℕ × ℕ)
items_of None = []
items_of (Some v) = v.items

-- the structs that are there under a key
abbrev pub group : Groups → Key → List (ℕ × ℕ)
group g k = items_of (get same_key g.lists k)

-- those of a list that have members and this key
abbrev pub of_key : List (List Struct) → Key → List (ℕ × ℕ) → List (ℕ × ℕ)
of_key us k xs = filter (λ x. is_complete us x && same_key (full_key (struct_at us x)) k) xs

-- the groups are those of a list
abbrev pub AreGroups : List (List Struct) → List (ℕ × ℕ) → Groups → Type 0
AreGroups us xs g = (k : Key) → group g k ≡ of_key us k xs
