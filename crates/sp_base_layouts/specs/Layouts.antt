-- The shape of a type, by the table of structs (C90 6.5.2.1).
use Rattle.std.specs.Prelude.{ℕ, zero, suc, ◌+◌, max, Bool, true, false, List, [], ◌∷◌, Option, Some, None, slice_get}
use Rattle.sp_types.specs.Types.{CType, void, integer, floating, pointer, array, structure, function, Struct}
use Rattle.sp_ir.specs.Shapes.{Shape, Shapes, scalar, floating_shape, union_of, array_of, struct_of, no_shapes, next_shape}
use Rattle.sp_ir.specs.Formed.{points}
use Rattle.sp_ir.specs.Terrain.{size_of}

-- what has no members that are known
abbrev pub bare : CType → Shape
bare t = struct_of t 0 no_shapes

-- the shape of a type, where these are the sizes of types and the shapes of structs
abbrev pub shape_by : (CType → ℕ) → (ℕ → Shape) → CType → Shape
shape_by size inside (integer k) = scalar (integer k) (size (integer k))
shape_by size inside (floating k) = floating_shape (floating k) (size (floating k))
shape_by size inside (pointer t) = scalar (pointer t) (size (pointer t))
shape_by size inside (array t (Some n)) =
    array_of (array t (Some n)) (size (array t (Some n))) (shape_by size inside t) n
shape_by size inside (array t None) = bare (array t None)
shape_by size inside (structure k) = inside k
shape_by size inside void = bare void
shape_by size inside (function s) = bare (function s)

abbrev pub member_shapes : (CType → Shape) → List (ℕ × CType) → Shapes
member_shapes shape [] = no_shapes
member_shapes shape (m ∷ ms) = next_shape (shape m.1) (member_shapes shape ms)

abbrev pub first_shape : CType → ℕ → (CType → Shape) → List (ℕ × CType) → Shape
first_shape of size shape [] = bare of
first_shape of size shape (m ∷ ms) = union_of size (shape m.1)

-- the shape of a struct or union of these members
abbrev pub shape_of_members : CType → ℕ → (CType → Shape) → Bool → Option (List (ℕ × CType)) → Shape
shape_of_members of size shape union None = bare of
shape_of_members of size shape false (Some ms) = struct_of of size (member_shapes shape ms)
shape_of_members of size shape true (Some ms) = first_shape of size shape ms

abbrev pub shape_of_struct : CType → ℕ → (CType → Shape) → Option Struct → Shape
shape_of_struct of size shape None = bare of
shape_of_struct of size shape (Some d) = shape_of_members of size shape d.union d.members

-- the shape of a struct, going down so deep through structs that lie inside one another
abbrev pub struct_shape : List Struct → ℕ → ℕ → Shape
struct_shape ss zero k = bare (structure k)
struct_shape ss (suc n) k =
    shape_of_struct (structure k) (size_of ss (structure k))
    (shape_by (size_of ss) (struct_shape ss n)) (slice_get ss k)

abbrev pub shape_within : List Struct → ℕ → CType → Shape
shape_within ss n t = shape_by (size_of ss) (struct_shape ss n) t

-- how deep structs lie inside one another
abbrev pub depth : List Struct → ℕ
depth [] = 0
depth (s ∷ ss) = max s.level (depth ss)

-- the shape of a type
abbrev pub layout_of : List Struct → CType → Shape
layout_of ss t = shape_within ss (depth ss) t

-- of each struct from the number k on whether it has a leaf of pointer type
abbrev pub pointers_from : List Struct → ℕ → List Struct → List Bool
pointers_from ss k [] = []
pointers_from ss k (d ∷ ds) = points (layout_of ss (structure k)) ∷ pointers_from ss (k + 1) ds

abbrev pub pointers_of : List Struct → List Bool
pointers_of ss = pointers_from ss 0 ss
