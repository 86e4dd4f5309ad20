-- The cells of an object with start values (C90 6.5.7).
use Rattle.std.specs.Prelude.{ℕ, ◌+◌, ◌*◌, ◌==◌, nat_lt, cond, List, [], ◌∷◌, ◌++◌, Option, Some, None, map, count_by}
use Rattle.sp_types.specs.Typed.{Typed}
use Rattle.sp_ir.specs.Shapes.{Shape, Shapes, scalar, floating_shape, union_of, array_of, struct_of, no_shapes, next_shape, is_floating_shape, leaf_count, leaf_cell}

abbrev pub region_behind : ℕ → Option ℕ → ℕ
region_behind root None = 0
region_behind root (Some d) = root + d

-- the region of the cell of a leaf of an object whose root is this region
abbrev pub leaf_region : Shape → ℕ → ℕ → ℕ
leaf_region s root k = region_behind root (leaf_cell s k)

-- those of the leaves with a value
abbrev pub start_cells : Shape → ℕ → List (ℕ × Typed) → List ℕ
start_cells s root es = map (λ (e : ℕ × Typed). leaf_region s root e.0) es

-- of each region of n objects of this shape how many leaves it is the cell of
abbrev mutual
  pub cell_leaves : ℕ → Shape → List ℕ
  cell_leaves n (scalar t size) = n ∷ []
  cell_leaves n (floating_shape t size) = 0 ∷ []
  cell_leaves n (union_of size first) = n * leaf_count first ∷ []
  cell_leaves n (array_of t size inner k) = 0 ∷ cell_leaves (n * k) inner
  cell_leaves n (struct_of t size ms) = 0 ∷ member_cell_leaves n ms

  pub member_cell_leaves : ℕ → Shapes → List ℕ
  member_cell_leaves n no_shapes = []
  member_cell_leaves n (next_shape m ms) =
      cond (is_floating_shape m) [] (cell_leaves n m) ++ member_cell_leaves n ms

-- The cells with a leaf that has no value: those of more leaves than have values there. These are
-- the leaves of each region from the number r on, and the cells of the values.
abbrev pub cells_left : List ℕ → ℕ → List ℕ → List ℕ
cells_left cells r [] = []
cells_left cells r (n ∷ ns) =
    cond (nat_lt (count_by (λ c. c == r) cells) n)
    (r ∷ cells_left cells (r + 1) ns) (cells_left cells (r + 1) ns)

abbrev pub zero_cells : Shape → ℕ → List (ℕ × Typed) → List ℕ
zero_cells s root es = cells_left (start_cells s root es) root (cell_leaves 1 s)
