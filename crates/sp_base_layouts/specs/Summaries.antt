-- What a type comes to by its shape, found without its shape: each struct is summed up once, from
-- what its members come to.
use Rattle.std.specs.Prelude.{◌≡◌, ℕ, ◌+◌, ◌*◌, ◌==◌, nat_lt, Bool, true, false, not, ◌||◌, ◌&&◌, cond, List, [], ◌∷◌, Option, Some, None, slice_get}
use Rattle.sp_types.specs.Types.{CType, void, integer, floating, pointer, array, structure, function, Struct}
use Rattle.sp_types.specs.Structs.{height}
use Rattle.sp_ir.specs.Formed.{points, members_point, is_floating}
use Rattle.sp_ir.specs.Shapes.{Shape, Shapes, scalar, floating_shape, union_of, array_of, struct_of, no_shapes, next_shape, region_count, member_region_count, leaf_count, member_leaf_count}
use Rattle.sp_ir.specs.Terrain.{size_of}
use Rattle.sp_base_layouts.specs.Layouts.{layout_of, shape_of_struct}
use Rattle.sp_base_layouts.specs.declared.summaries.Summary.{Summary}

-- ---- by the shape

-- one of its regions is the cell of a leaf
abbrev mutual
  pub has_cell : Shape → Bool
  has_cell (scalar t size) = true
  has_cell (floating_shape t size) = false
  has_cell (union_of size first) = true
  has_cell (array_of t size inner n) = has_cell inner
  has_cell (struct_of t size ms) = member_has_cell ms

  pub member_has_cell : Shapes → Bool
  member_has_cell no_shapes = false
  member_has_cell (next_shape m ms) = has_cell m || member_has_cell ms

abbrev pub summary : ℕ → ℕ → Bool → Bool → Summary
summary regions leaves points cells = record {
  regions = regions;
  leaves = leaves;
  points = points;
  cells = cells;
}

abbrev pub summary_of : Shape → Summary
summary_of s = summary (region_count s) (leaf_count s) (points s) (has_cell s)

abbrev pub summary_of_all : Shapes → Summary
summary_of_all ms =
    summary (member_region_count ms) (member_leaf_count ms) (members_point ms) (member_has_cell ms)

-- ---- by the table of structs

-- what has no members that are known
abbrev pub nothing : Summary
nothing = summary 1 0 false false

abbrev pub of_elements : ℕ → Summary → Summary
of_elements n e = summary (1 + e.regions) (n * e.leaves) e.points e.cells

-- a member before others
abbrev pub with_member : CType → Summary → Summary → Summary
with_member t m rest =
    summary (cond (is_floating t) 0 m.regions + rest.regions) (m.leaves + rest.leaves)
    (m.points || rest.points) (m.cells || rest.cells)

abbrev pub of_members : (CType → Summary) → List (ℕ × CType) → Summary
of_members inside [] = summary 0 0 false false
of_members inside (m ∷ ms) = with_member m.1 (inside m.1) (of_members inside ms)

abbrev pub whole : Summary → Summary
whole all = summary (1 + all.regions) all.leaves all.points all.cells

-- a union is one cell, with the leaves of its first member
abbrev pub of_first : (CType → Summary) → List (ℕ × CType) → Summary
of_first inside [] = nothing
of_first inside (m ∷ ms) = summary 1 (inside m.1).leaves (inside m.1).points true

abbrev pub of_struct_members : (CType → Summary) → Bool → Option (List (ℕ × CType)) → Summary
of_struct_members inside union None = nothing
of_struct_members inside false (Some ms) = whole (of_members inside ms)
of_struct_members inside true (Some ms) = of_first inside ms

abbrev pub of_struct : (CType → Summary) → Option Struct → Summary
of_struct inside None = nothing
of_struct inside (Some d) = of_struct_members inside d.union d.members

abbrev pub known_summary : Option Summary → Summary
known_summary None = nothing
known_summary (Some s) = s

abbrev pub summary_at : List Summary → ℕ → Summary
summary_at all k = known_summary (slice_get all k)

-- of a type, where these are the summaries of the structs
abbrev pub summary_by : List Summary → CType → Summary
summary_by all (integer k) = summary 1 1 false true
summary_by all (floating k) = summary 1 1 false false
summary_by all (pointer t) = summary 1 1 true true
summary_by all (array t (Some n)) = of_elements n (summary_by all t)
summary_by all (array t None) = nothing
summary_by all (structure k) = summary_at all k
summary_by all void = nothing
summary_by all (function s) = nothing

-- ---- when summaries are those of the structs

abbrev pub same_flag : Bool → Bool → Bool
same_flag true b = b
same_flag false b = not b

abbrev pub same_summary : Summary → Summary → Bool
same_summary a b =
    (a.regions == b.regions) && ((a.leaves == b.leaves)
    && (same_flag a.points b.points && same_flag a.cells b.cells))

-- fewer structs lie inside one another in each of these than the level says
abbrev pub are_below : List Struct → ℕ → List (ℕ × CType) → Bool
are_below ss level [] = true
are_below ss level (m ∷ ms) = nat_lt (height ss m.1) level && are_below ss level ms

abbrev pub are_levelled : List Struct → ℕ → Option (List (ℕ × CType)) → Bool
are_levelled ss level None = true
are_levelled ss level (Some ms) = nat_lt 0 level && are_below ss level ms

-- the struct of number k is levelled, and has this summary by those of all
abbrev pub is_summed : List Struct → List Summary → ℕ → Struct → Bool
is_summed ss all k d =
    are_levelled ss d.level d.members
    && same_summary (summary_at all k) (of_struct (summary_by all) (Some d))

-- from the number k on
abbrev pub are_summed : List Struct → List Summary → ℕ → List Struct → Bool
are_summed ss all k [] = true
are_summed ss all k (d ∷ ds) = is_summed ss all k d && are_summed ss all (k + 1) ds

-- A struct's shape is made of those of its members, and what each type comes to is by these
-- summaries.
pub record AreSummaries (ss : List Struct) (all : List Summary) : Type 0 where
  pub shapes : (k : ℕ) → layout_of ss (structure k)
      ≡ shape_of_struct (structure k) (size_of ss (structure k)) (layout_of ss) (slice_get ss k)
  pub sums : (t : CType) → summary_by all t ≡ summary_of (layout_of ss t)
