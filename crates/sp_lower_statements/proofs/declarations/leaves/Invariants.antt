use Rattle.std.proofs.Common.{◌≡◌, map, drop}
use Rattle.sp_ir.specs.View.{leaf_of}
use Rattle.sp_lower_draft.specs.View.{context_of, draft_of}
use Rattle.sp_lower_body.specs.Declarations.{leaves}
use Rattle.sp_lower_statements.specs.Starts.{starts_of, adding_starts}
use Rattle.sp_lower_statements.proofs.LeafLists.{with_leaves}
use Rattle.sp_lower_statements.proofs.declarations.leaves.Given as goal

abbrev pub invariant-loop-i : goal.invariant-loop-i
invariant-loop-i l =
    (leaves (context_of l.scope) l.cells (starts_of l.fn.starts) (draft_of l.fn.draft)
    ≡ with_leaves (map leaf_of l.leaves.items) (leaves (context_of l.scope) (drop l.i l.cells)
    (starts_of (drop l.i l.starts)) (draft_of l.draft)))
    × (l.later ≡ adding_starts (starts_of (drop l.i l.starts)))
