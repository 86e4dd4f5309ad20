use Rattle.sp_deps.proofs.Walks.{reaches_node}
use Rattle.sp_deps.proofs.walk.reach_all.Goals as goal

pub loop-node-preserved : goal.loop-node-preserved
loop-node-preserved g c = record {
  listed = c.in_ok-reach.ensures.listed;
  so_far = reaches_node c.args.walk.now c.loop-node.walk c.reach.new.walk c.args.nodes.now c.loop-node.node-index 0 c.loop-node-test.true c.loop-node.invariant.so_far c.in_ok-reach.ensures.reaches;
}
