use Rattle.std.proofs.Common.{◌≡◌, ◌++◌, map, drop}
use Rattle.sp_types.specs.TypedView.{typed_of}
use Rattle.sp_types.specs.View.{type_of, struct_of}
use Rattle.sp_base_layouts.specs.Layouts.{layout_of}
use Rattle.sp_base_layouts.specs.Leaves.{start_cells}
use Rattle.sp_base_layouts.proofs.leaves.start_cells.Given as goal

abbrev pub invariant-loop-start : goal.invariant-loop-start
invariant-loop-start l =
    l.cells.items ++ start_cells (layout_of (map struct_of l.layouts.structs.now) (type_of l.of)) l.root (map (λ s. (s.0, typed_of s.1)) (drop l.start-index l.starts))
    ≡ start_cells (layout_of (map struct_of l.layouts.structs.now) (type_of l.of)) l.root (map (λ s. (s.0, typed_of s.1)) l.starts)
