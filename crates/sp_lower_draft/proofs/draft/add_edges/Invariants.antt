use Rattle.std.proofs.Common.{◌≡◌, ◌++◌, take}
use Rattle.sp_lower_draft.specs.Draft.{edges_to}
use Rattle.sp_lower_draft.proofs.draft.add_edges.Given as goal

abbrev pub invariant-loop-from : goal.invariant-loop-from
invariant-loop-from l = l.edges.items ≡ l.fn.edges.items ++ edges_to l.to (take l.from-index l.froms)
