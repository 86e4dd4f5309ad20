use Rattle.std.proofs.Common.{◌<◌, sym, subst, arith}
use Rattle.sp_lattice.specs.System.{AllBelow}
use Rattle.sp_dense.proofs.Reversal.{reversing_more}
use Rattle.sp_dense.proofs.edges.successors.Goals as goal

pub edges-preserved : goal.edges-preserved
edges-preserved g c =
    let m = g.S.System.meaning c.args.system.now in
    let edges = c.edges_into-edges.result.now in
    let j = c.edges.from-index in
    let node = c.nodes.node in
    let low : node < m.nodes = omega (arith, c.nodes-test.true) in
    let below = subst (λ ps. AllBelow m.nodes ps) (sym c.edges_into-edges.ensures) ((g.met.S.System.lawful c.args.system.now).into_below node low) in
    reversing_more m c.edges.lists.items c.index_mut-list.result.now c.push-in-edges.new.self edges node j 0 low c.edges-test.true (below j 0 c.edges-test.true)
    c.index_mut-list.ensures.value c.in_ok-push-2.ensures.items c.edges.invariant
