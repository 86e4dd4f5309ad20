use Rattle.std.proofs.Common.{◌≡◌, ◌++◌, map, drop}
use Rattle.sp_types.specs.TypedView.{typed_of}
use Rattle.sp_ir.specs.View.{leaf_of}
use Rattle.sp_lower_draft.specs.View.{context_of}
use Rattle.sp_lower_objects.specs.Objects.{start_leaves}
use Rattle.sp_lower_objects.proofs.objects.start_leaves.Given as goal

abbrev pub invariant-loop-k : goal.invariant-loop-k
invariant-loop-k l =
    map leaf_of l.leaves.items
    ++ start_leaves (context_of l.scope) l.cells l.k (map (λ s. (s.0, typed_of s.1)) (drop l.k l.starts))
    ≡ start_leaves (context_of l.scope) l.cells 0 (map (λ s. (s.0, typed_of s.1)) l.starts)
