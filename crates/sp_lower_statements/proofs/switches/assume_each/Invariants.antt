use Rattle.std.proofs.Common.{◌≡◌, drop}
use Rattle.sp_ir.specs.View.{expression_of}
use Rattle.sp_lower_draft.specs.View.{context_of, draft_of}
use Rattle.sp_lower_body.specs.Statements.{assume_each}
use Rattle.sp_lower_statements.proofs.Headers.{with_nodes}
use Rattle.sp_lower_statements.proofs.switches.assume_each.Given as goal

abbrev pub invariant-loop-number : goal.invariant-loop-number
invariant-loop-number l =
    assume_each (context_of l.scope) (expression_of l.value) l.kind l.place l.ends l.fn.values (draft_of l.fn.draft)
    ≡ with_nodes l.nodes.items (assume_each (context_of l.scope) (expression_of l.value) l.kind l.place l.ends (drop l.number-index l.values) (draft_of l.draft))
