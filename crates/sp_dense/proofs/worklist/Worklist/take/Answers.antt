use Rattle.sp_dense.proofs.Queue.{kept_taken}
use Rattle.sp_dense.proofs.worklist.Worklist.take.Goals as goal

pub invariant_of-self-2 : goal.invariant_of-self-2
invariant_of-self-2 c =
    kept_taken c.self.inside.is_waiting.items c.self.inside.queue.items c.pop_front.new.self.items c.in_ok-node.node c.self.invariant c.in_ok-node.ensures.items
