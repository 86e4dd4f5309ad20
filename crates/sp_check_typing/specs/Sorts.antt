-- Sorts of types: what lowering asks of the type of an operand (C90 6.1.2.5). A type and the
-- composite of it and another have one sort.
use Rattle.std.specs.Prelude.{◌≡◌, ◌^◌, ◌≤◌, ◌==◌, Bool, true, false, List, ⊤}
use Rattle.sp_types.specs.Types.{CType, void, integer, pointer, array, structure, function, Struct}
use Rattle.sp_ir.specs.Terrain.{size_of}

abbrev pub is_function : CType → Bool
is_function (function s) = true
is_function t = false

-- one is as good as the other to name an object or a member by
abbrev pub agrees : CType → CType → Bool
agrees void void = true
agrees (integer j) (integer k) = true
agrees (pointer t) (pointer u) = true
agrees (array t n) (array u m) = true
agrees (structure j) (structure k) = j == k
agrees (function s) (function r) = true
agrees t u = false

-- the value of one goes to the other as it stands: both integers, both pointers, or one struct
abbrev pub same_value : CType → CType → Bool
same_value (integer j) (integer k) = true
same_value (pointer t) (pointer u) = true
same_value (structure j) (structure k) = j == k
same_value t u = false

-- an operand of this type of an integer has just the integer's type
abbrev pub IsExact : CType → CType → Type 0
IsExact (integer k) u = u ≡ integer k
IsExact t u = ⊤

-- ---- sizes

-- it has a layout, within the limit of sizes
abbrev pub IsSized : List Struct → CType → Type 0
IsSized ss t = (1 ≤ size_of ss t) × (size_of ss t ≤ 2 ^ 40)

-- a value of the type can be kept: an integer, a pointer, or a struct with a layout
abbrev pub IsStored : List Struct → CType → Type 0
IsStored ss (integer k) = ⊤
IsStored ss (pointer t) = ⊤
IsStored ss (structure k) = 1 ≤ size_of ss (structure k)
IsStored ss t = ⊥

-- a struct has a value only where it is complete (C90 6.2.2.1)
abbrev pub IsKnown : List Struct → CType → Type 0
IsKnown ss (structure k) = 1 ≤ size_of ss (structure k)
IsKnown ss t = ⊤

-- a step changes it by 1: an integer, or a pointer to what has a size (C90 6.3.2.4)
abbrev pub IsStepped : List Struct → CType → Type 0
IsStepped ss (integer k) = ⊤
IsStepped ss (pointer t) = IsSized ss t
IsStepped ss t = ⊥
