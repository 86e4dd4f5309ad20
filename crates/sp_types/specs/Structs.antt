-- The table of structs and unions (C90 6.5.2.1): what a type takes from it, and when its entries are what their members give.
use Rattle.std.specs.Prelude.{◌≡◌, ℕ, suc, ◌+◌, ◌-◌, ◌*◌, ◌/◌, ◌^◌, ◌≤◌, ◌<◌, min, max, Bool, true, false, List, [], ◌∷◌, length, Option, Some, None, slice_get, ⊤, All}
use Rattle.sp_types.specs.Types.{CType, void, integer, floating, pointer, array, structure, function, Signature, signature, Parameters, untold, listed, CTypes, no_types, next_type, Struct}
use Rattle.sp_types.specs.declared.extents.Extent.{Extent}
use Rattle.sp_types.specs.Layout.{extent, layout}

-- ---- how deep, how many leaves, how many cells

abbrev pub height_of : Option Struct → ℕ
height_of None = 0
height_of (Some s) = s.level

-- how many structs lie inside one another in a type, held by value
abbrev pub height : List Struct → CType → ℕ
height ss (array t n) = height ss t
height ss (structure k) = height_of (slice_get ss k)
height ss _ = 0

abbrev pub leaves_of : Option Struct → ℕ
leaves_of None = 0
leaves_of (Some s) = s.leaves

-- counts stop at the largest number that the code holds
abbrev pub times : ℕ → ℕ → ℕ
times n each = min (n * each) (2 ^ 64 - 1)

abbrev pub plus : ℕ → ℕ → ℕ
plus n m = min (n + m) (2 ^ 64 - 1)

-- the scalars of an object in order (C90 6.5.7)
abbrev pub leaves : List Struct → CType → ℕ
leaves ss (integer k) = 1
leaves ss (floating k) = 1
leaves ss (pointer t) = 1
leaves ss (array t (Some n)) = times n (leaves ss t)
leaves ss (structure k) = leaves_of (slice_get ss k)
leaves ss _ = 0

abbrev pub cells_of : Option Struct → ℕ
cells_of None = 0
cells_of (Some s) = s.cells

-- the cells of abstract memory: an element of an array once, and none for floating numbers
abbrev pub cells : List Struct → CType → ℕ
cells ss (integer k) = 1
cells ss (pointer t) = 1
cells ss (array t n) = cells ss t
cells ss (structure k) = cells_of (slice_get ss k)
cells ss _ = 0

-- ---- what members give their struct

-- the least multiple of the alignment at or above this offset
abbrev pub aligned : ℕ → ℕ → ℕ
aligned n align = (n + (align - 1)) / align * align

-- C90 6.5.2.1: each member behind the last, where its alignment divides; of a union all at 0
abbrev pub with_member : Bool → Extent → Extent → Extent
with_member true whole e = extent (max whole.size e.size) (max whole.align e.align)
with_member false whole e = extent (aligned whole.size e.align + e.size) (max whole.align e.align)

abbrev pub with_members : List Struct → Bool → Extent → List (ℕ × CType) → Option Extent
with_members ss union whole [] = Some (extent (aligned whole.size whole.align) whole.align)
with_members ss union whole (m ∷ ms) = elim (layout ss m.1) [ None ↦ None | Some e ↦ with_members ss union (with_member union whole e) ms ]

-- above each struct that a member holds
abbrev pub level_above : List Struct → List (ℕ × CType) → ℕ
level_above ss [] = 1
level_above ss (m ∷ ms) = max (suc (height ss m.1)) (level_above ss ms)

abbrev pub sum_of : (CType → ℕ) → List (ℕ × CType) → ℕ
sum_of count [] = 0
sum_of count (m ∷ ms) = plus (count m.1) (sum_of count ms)

-- those of all members; of a union those of the first
abbrev pub leaves_of_members : List Struct → Bool → List (ℕ × CType) → ℕ
leaves_of_members ss false ms = sum_of (leaves ss) ms
leaves_of_members ss true [] = 0
leaves_of_members ss true (m ∷ ms) = leaves ss m.1

-- a union is one cell, since its members overlap
abbrev pub cells_of_members : List Struct → Bool → List (ℕ × CType) → ℕ
cells_of_members ss false ms = sum_of (cells ss) ms
cells_of_members ss true ms = 1

-- ---- tables

abbrev pub IsSmall : Option Extent → Type 0
IsSmall None = ⊤
IsSmall (Some e) = e.size ≤ 2 ^ 40

-- the structs named are there, lengths are at least 1, and nothing is larger than 2^40 bytes
abbrev mutual
  pub IsFormed : List Struct → CType → Type 0
  IsFormed ss void = ⊤
  IsFormed ss (integer k) = ⊤
  IsFormed ss (floating k) = ⊤
  IsFormed ss (pointer t) = IsFormed ss t
  IsFormed ss (array t None) = IsFormed ss t
  IsFormed ss (array t (Some n)) = IsFormed ss t × (1 ≤ n) × IsSmall (layout ss (array t (Some n)))
  IsFormed ss (structure k) = k < length ss
  IsFormed ss (function s) = IsFormedSignature ss s

  pub IsFormedSignature : List Struct → Signature → Type 0
  IsFormedSignature ss (signature r ps v) = IsFormed ss r × AreFormedParameters ss ps

  pub AreFormedParameters : List Struct → Parameters → Type 0
  AreFormedParameters ss untold = ⊤
  AreFormedParameters ss (listed ts) = AreFormed ss ts

  pub AreFormed : List Struct → CTypes → Type 0
  AreFormed ss no_types = ⊤
  AreFormed ss (next_type t ts) = IsFormed ss t × AreFormed ss ts

-- the struct that a type holds by value
abbrev pub held : CType → Option ℕ
held (array t n) = held t
held (structure k) = Some k
held _ = None

abbrev pub IsAbove : List Struct → ℕ → Option ℕ → Type 0
IsAbove ss level None = ⊤
IsAbove ss level (Some k) = (s : Struct) → slice_get ss k ≡ Some s → s.level < level

abbrev pub IsWhole : List Struct → Struct → Option (List (ℕ × CType)) → Type 0
IsWhole ss s None = s.extent ≡ None
IsWhole ss s (Some ms) =
    All (λ m. IsFormed ss m.1 × IsAbove ss s.level (held m.1)) ms
    × ((e : Extent) × (s.extent ≡ Some e) × (with_members ss s.union (extent 0 1) ms ≡ Some e) × (e.size ≤ 2 ^ 40))
    × (s.level ≡ level_above ss ms) × (s.leaves ≡ leaves_of_members ss s.union ms) × (s.cells ≡ cells_of_members ss s.union ms)

-- No struct holds itself by value, its members are complete, and each entry is what they give it.
abbrev pub IsTable : List Struct → Type 0
IsTable ss = (k : ℕ) (s : Struct) → slice_get ss k ≡ Some s → IsWhole ss s s.members
