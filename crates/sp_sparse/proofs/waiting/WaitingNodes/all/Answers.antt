use Rattle.std.proofs.Common.{◌≤◌, ◌∙◌, arith}
use Rattle.sp_sparse.proofs.Windows.{window-all, window-has}
use Rattle.sp_sparse.proofs.waiting.WaitingNodes.all.Goals as goal

pub invariant_of-result : goal.invariant_of-result
invariant_of-result c =
    let done = c.loop-node.invariant in
    let past : c.args.nodes ≤ c.loop-node.node = omega (arith, c.loop-node-test.false) in
    window-all c.loop-node.buffer.items c.loop-node.is_waiting.items c.args.nodes done.long (omega (arith, done.marks_long)) (λ k low. done.in_order k (omega (arith, low, past))) (λ k low. done.marked k (omega (arith, low, past)))

pub returns-clause-all : goal.returns-clause-all
returns-clause-all c n low =
    let done = c.loop-node.invariant in
    let past : c.args.nodes ≤ c.loop-node.node = omega (arith, c.loop-node-test.false) in
    let window = window-all c.loop-node.buffer.items c.loop-node.is_waiting.items c.args.nodes done.long (omega (arith, done.marks_long)) (λ k k_low. done.in_order k (omega (arith, k_low, past))) (λ k k_low. done.marked k (omega (arith, k_low, past))) in
    window-has c.loop-node.buffer.items 0 c.args.nodes c.loop-node.is_waiting.items window n ∙ done.marked n (omega (arith, low, past))
