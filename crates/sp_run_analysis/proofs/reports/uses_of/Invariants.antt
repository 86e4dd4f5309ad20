use Rattle.std.proofs.Common.{◌≡◌, map, take}
use Rattle.sp_defuse.specs.declared.nodes.Node.{Node}
use Rattle.sp_run_analysis.proofs.reports.uses_of.Given as goal

abbrev pub invariant-loop-node : goal.invariant-loop-node
invariant-loop-node l = map (λ u. u.items) l.uses.items ≡ map (λ (x : Node). x.uses.items) (take l.node-index l.fn.nodes)
