-- Object types with their structs written out, and what regions, cells and leaves an object of such
-- a type has (C90 6.1.2.5, 6.5.7).
use Rattle.std.specs.Prelude.{◌≡◌, ℕ, ◌+◌, ◌*◌, ◌-◌, ◌%◌, nat_lt, Bool, true, false, cond, List, [], ◌∷◌, ◌++◌, Option, Some, None, option_map, slice_get, if◌then◌else◌}
use Rattle.sp_types.specs.Types.{CType, integer, floating, pointer, array, structure, Struct}
use Rattle.sp_ir.specs.declared.region.Step.{Step}
use Rattle.sp_ir.specs.declared.region.Step.TheVariants.{Field, Element}
use Rattle.sp_ir.specs.Regions.{Region}

-- Each with its type and its size in bytes. A union's leaves are those of its first member.
mutual
  pub data Shape : Type 0 where
    scalar : CType → ℕ → Shape
    floating_shape : CType → ℕ → Shape
    union_of : ℕ → Shape → Shape
    array_of : CType → ℕ → Shape → ℕ → Shape
    struct_of : CType → ℕ → Shapes → Shape

  pub data Shapes : Type 0 where
    no_shapes : Shapes
    next_shape : Shape → Shapes → Shapes

abbrev pub region : ℕ → List Step → Option CType → ℕ → Option ℕ → Region
region o path element size count = record {
  object = o;
  path = path;
  element = element;
  size = size;
  count = count;
}

-- A member of floating type has no region. An object of such a type, and an array's element, has
-- one, which is no cell.
abbrev pub is_floating_shape : Shape → Bool
is_floating_shape (floating_shape t size) = true
is_floating_shape s = false

-- The regions of an object or of a part of it: each before its children, members in order. The
-- elements of a union are its bytes.
abbrev mutual
  pub regions : ℕ → List Step → Option ℕ → Shape → List Region
  regions o path n (scalar t size) = region o path (Some t) size n ∷ []
  regions o path n (floating_shape t size) = region o path (Some t) size n ∷ []
  regions o path n (union_of size first) =
      region o path None 1 (option_map (λ k. k * size) n) ∷ []
  regions o path n (array_of t size inner k) =
      region o path (Some t) size n ∷ regions o (path ++ Element ∷ []) (Some k) inner
  regions o path n (struct_of t size ms) =
      region o path (Some t) size n ∷ member_regions o path 0 ms

  pub member_regions : ℕ → List Step → ℕ → Shapes → List Region
  member_regions o path k no_shapes = []
  member_regions o path k (next_shape m ms) =
      cond (is_floating_shape m) [] (regions o (path ++ Field k ∷ []) (Some 1) m)
      ++ member_regions o path (k + 1) ms

abbrev mutual
  -- how many regions it has
  pub region_count : Shape → ℕ
  region_count (scalar t size) = 1
  region_count (floating_shape t size) = 1
  region_count (union_of size first) = 1
  region_count (array_of t size inner k) = 1 + region_count inner
  region_count (struct_of t size ms) = 1 + member_region_count ms

  pub member_region_count : Shapes → ℕ
  member_region_count no_shapes = 0
  member_region_count (next_shape m ms) =
      cond (is_floating_shape m) 0 (region_count m) + member_region_count ms

abbrev mutual
  -- how many scalar leaves it has
  pub leaf_count : Shape → ℕ
  leaf_count (scalar t size) = 1
  leaf_count (floating_shape t size) = 1
  leaf_count (union_of size first) = leaf_count first
  leaf_count (array_of t size inner k) = k * leaf_count inner
  leaf_count (struct_of t size ms) = member_leaf_count ms

  pub member_leaf_count : Shapes → ℕ
  member_leaf_count no_shapes = 0
  member_leaf_count (next_shape m ms) = leaf_count m + member_leaf_count ms

abbrev mutual
  -- which of its regions, counted from its own, is the cell of the leaf of this number; a leaf of
  -- floating type has none
  pub leaf_cell : Shape → ℕ → Option ℕ
  leaf_cell (scalar t size) k = Some 0
  leaf_cell (floating_shape t size) k = None
  leaf_cell (union_of size first) k = Some 0
  leaf_cell (array_of t size inner n) k =
      option_map (λ c. 1 + c) (leaf_cell inner (k % leaf_count inner))
  leaf_cell (struct_of t size ms) k = option_map (λ c. 1 + c) (member_leaf_cell ms k)

  pub member_leaf_cell : Shapes → ℕ → Option ℕ
  member_leaf_cell no_shapes k = None
  member_leaf_cell (next_shape m ms) k =
      if nat_lt k (leaf_count m) then leaf_cell m k
      else option_map (λ c. cond (is_floating_shape m) 0 (region_count m) + c)
      (member_leaf_cell ms (k - leaf_count m))

-- The type has this shape, where these are the structs and these the sizes of types.
module _ (structs : List Struct) (size : CType → ℕ) where
  mutual
    pub data HasShape : CType → Shape → Type 0 where
      has_integer : {k : _} → HasShape (integer k) (scalar (integer k) (size (integer k)))
      has_pointer : {t : CType} → HasShape (pointer t) (scalar (pointer t) (size (pointer t)))
      has_floating : {k : _}
          → HasShape (floating k) (floating_shape (floating k) (size (floating k)))
      has_array : {t : CType} {n : ℕ} {s : Shape} → HasShape t s
          → HasShape (array t (Some n)) (array_of (array t (Some n)) (size (array t (Some n))) s n)
      has_struct : {n : ℕ} {d : Struct} {members : List (ℕ × CType)} {ms : Shapes}
          → slice_get structs n ≡ Some d → d.union ≡ false → d.members ≡ Some members
          → HaveShapes members ms
          → HasShape (structure n) (struct_of (structure n) (size (structure n)) ms)
      has_union : {n : ℕ} {d : Struct} {first : ℕ × CType} {rest : List (ℕ × CType)} {s : Shape}
          → slice_get structs n ≡ Some d → d.union ≡ true → d.members ≡ Some (first ∷ rest)
          → HasShape first.1 s → HasShape (structure n) (union_of (size (structure n)) s)

    pub data HaveShapes : List (ℕ × CType) → Shapes → Type 0 where
      have_none : HaveShapes [] no_shapes
      have_next : {m : ℕ × CType} {ms : List (ℕ × CType)} {s : Shape} {ss : Shapes}
          → HasShape m.1 s → HaveShapes ms ss → HaveShapes (m ∷ ms) (next_shape s ss)
