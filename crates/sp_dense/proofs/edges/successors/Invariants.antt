use Rattle.std.proofs.Common.{◌≡◌, [], map, replicate, take}
use Rattle.sp_dense.proofs.Reversal.{Reversing}
use Rattle.sp_dense.proofs.edges.successors.Given as goal

abbrev pub invariant-loop : goal.invariant-loop
invariant-loop g l = map (λ row. row.items) l.lists.items ≡ replicate l.counter []

abbrev pub invariant-nodes : goal.invariant-nodes
invariant-nodes g l = Reversing (g.S.System.meaning l.system) l.lists.items l.node []

abbrev pub invariant-edges : goal.invariant-edges
invariant-edges g l = Reversing (g.S.System.meaning l.system) l.lists.items l.node (take l.from-index l.edges)
