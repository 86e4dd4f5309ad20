use Rattle.std.proofs.Common.{◌≡◌, map, drop}
use Rattle.sp_types.specs.Programs.{function_of}
use Rattle.sp_lower_draft.specs.View.{context_of, draft_of}
use Rattle.sp_lower_body.specs.View.{initial_view}
use Rattle.sp_lower_functions.specs.Functions.{functions_at, lower_functions}
use Rattle.sp_lower_functions.specs.View.{part_of}
use Rattle.sp_lower_functions.proofs.Turns.{with_parts}
use Rattle.sp_lower_functions.proofs.functions.lower_functions.Given as goal

abbrev pub invariant-loop-k : goal.invariant-loop-k
invariant-loop-k l =
    with_parts (map part_of l.parts.items) (lower_functions (context_of l.scope)
    (map initial_view l.initials) l.k l.first
    (functions_at (map function_of l.scope.functions.now) (drop l.k l.definitions))
    (drop l.k l.counts) (draft_of l.draft))
    ≡ lower_functions (context_of l.scope) (map initial_view l.initials) 0 l.fn.first
    (functions_at (map function_of l.scope.functions.now) l.definitions) l.counts
    (draft_of l.fn.draft)
