-- Which cells of an object have a leaf without a start value (C90 6.5.7).
use Rattle.std.specs.Prelude.{◌≡◌, ℕ, ◌+◌, ◌<◌, List, map, Some, slice_get, Contains, ◌↔◌}
use Rattle.sp_ir.specs.Commands.{Leaf}
use Rattle.sp_ir.specs.Shapes.{Shape, leaf_count}
use Rattle.sp_ir.specs.Formed.{LeafAt, HasValue}
use Rattle.sp_base_layouts.specs.Leaves.{cell_leaves, cells_left}

-- no leaf has two values
abbrev pub AreApart : List Leaf → Type 0
AreApart values = (i j : ℕ) (l m : Leaf) → slice_get values i ≡ Some l → slice_get values j ≡ Some m
    → l.number ≡ m.number → i ≡ j

-- each is a leaf of an object of this shape whose root is this region, with its cell
abbrev pub AreLeaves : Shape → ℕ → List Leaf → Type 0
AreLeaves s root values = (i : ℕ) (l : Leaf) → slice_get values i ≡ Some l
    → (l.number < leaf_count s) × LeafAt s root l.number l.cell

-- a leaf with this cell has no value
abbrev pub IsLeft : Shape → ℕ → List Leaf → ℕ → Type 0
IsLeft s root values c = (k : ℕ) × (k < leaf_count s) × LeafAt s root k c × (HasValue values k → ⊥)

-- the cells that are left are those
abbrev pub ZerosHold : Type 0
ZerosHold = (s : Shape) (root : ℕ) (values : List Leaf) → AreApart values → AreLeaves s root values
    → (c : ℕ) → Contains (cells_left (map (λ l. l.cell) values) root (cell_leaves 1 s)) c
    ↔ IsLeft s root values c
