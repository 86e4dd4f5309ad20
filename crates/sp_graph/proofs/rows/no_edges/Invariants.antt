use Rattle.std.proofs.Common.{◌≡◌, [], replicate}
use Rattle.sp_graph.proofs.rows.no_edges.Given as goal

abbrev pub invariant-loop : goal.invariant-loop
invariant-loop l = l.rows.items ≡ replicate l.counter []
