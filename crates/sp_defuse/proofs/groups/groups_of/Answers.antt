use Rattle.std.proofs.Common.{length, refl}
use Rattle.sp_defuse.proofs.Grouping.{groups-begun, groups-more}
use Rattle.sp_defuse.proofs.groups.groups_of.Goals as goal

pub loop-edge-init : goal.loop-edge-init
loop-edge-init c = groups-begun c.args.flow.now.nodes c.args.places.now (length c.args.places.now) c.in_ok-groups.groups.items refl c.in_ok-groups.ensures

pub loop-edge-preserved : goal.loop-edge-preserved
loop-edge-preserved c = groups-more c.args.flow.now.nodes c.nodes-nodes.result.now c.args.places.now c.edges_into-edge-items.result.now c.loop-edge.edge-index _ c.loop-edge.groups.items c.add_edge.new.groups.items
    c.nodes-nodes.ensures c.loop-edge-test.true c.loop-edge.invariant c.in_ok-add_edge.ensures.long c.in_ok-add_edge.ensures.each
