use Rattle.std.proofs.Common.{◌∙◌, sym, ap, subst, true, length, [], ◌+◌, ◌∷◌, arith, length-append}
use Rattle.sp_lattice.specs.System.{AllBelow, has}
use Rattle.sp_dense.proofs.Queue.{kept_all, below-push, below-more, every_more}
use Rattle.sp_dense.proofs.worklist.Worklist.all.Goals as goal

pub loop-node-preserved : goal.loop-node-preserved
loop-node-preserved c =
    let node = c.loop-node.node in
    let queue = c.loop-node.queue.items in
    let so_far = c.loop-node.invariant in
    let queued = c.in_ok-push_back.ensures.items in
    record {
      long = omega (arith, ap length queued, length-append queue (node ∷ []), so_far.long);
      marks = omega (arith, ap length c.in_ok-push.ensures.items, length-append c.loop-node.is_waiting.items (true ∷ []), so_far.marks);
      low = subst (λ xs. AllBelow (node + 1) xs) (sym queued) (below-push (node + 1) node queue (below-more node (node + 1) queue (omega arith) so_far.low) (omega arith));
      every = λ n low. ap (λ xs. has n xs) queued ∙ every_more queue node n so_far.every low;
    }

pub invariant_of-result : goal.invariant_of-result
invariant_of-result c =
    let done = c.loop-node.invariant in
    kept_all c.loop-node.is_waiting.items c.loop-node.queue.items c.loop-node.node done.marks done.low done.every
