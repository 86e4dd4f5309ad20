use Rattle.std.proofs.Common.{subst}
use Rattle.sp_graph.specs.Supergraph.{Graph}
use Rattle.sp_defuse.specs.Program.{equations_in}
use Rattle.sp_defuse.proofs.Opening.{AreMarked, open-known}
use Rattle.sp_defuse.proofs.open.open_nodes.Goals as goal

pub returns : goal.returns
returns c =
    let s = c.args.program.now in
    open-known (equations_in s) s.equations c.loop-node.marks.items (subst (λ (g : Graph). AreMarked g c.loop-node.marks.items) c.flow-flow.ensures c.loop-node.invariant.each)
