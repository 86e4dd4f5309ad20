use Rattle.std.proofs.Common.{◌≡◌, ◌<◌, ◌≤◌, ◌+◌, ◌∙◌, true, false, length, get_or, set, take, sym, ap, subst, arith, length-set}
use Rattle.std.proofs.lemmas.List.{get_or_default}
use Rattle.sp_dense.specs.inner.Waiting.{IsKept, Adds}
use Rattle.sp_dense.proofs.Queue.{idle, idle-le, adds_none, kept_added, adds_new, fewer_marked}
use Rattle.sp_dense.proofs.worklist.Worklist.add.Goals as goal

pub loop-node-init : goal.loop-node-init
loop-node-init c =
    let queue = c.self.inside.queue.items in
    let marks = c.self.inside.is_waiting.items in
    let waits : queue ≡ c.args.self.now.waiting = ap (λ w. w.waiting) c.self.view_is in
    let nodes : length marks ≡ c.args.self.now.nodes = ap (λ w. w.nodes) c.self.view_is in
    record {
      kept = c.self.invariant;
      same_nodes = nodes;
      so_far = adds_none c.args.self.now.waiting queue (sym waits);
      fewer = omega (arith, ap length waits, nodes, idle-le marks);
    }

pub loop-node-preserved : goal.loop-node-preserved
loop-node-preserved c =
    let nodes = c.args.nodes.now in
    let i = c.loop-node.node-index in
    let node = get_or nodes i 0 in
    let queue = c.loop-node.self-inside.queue.items in
    let marks = c.loop-node.self-inside.is_waiting.items in
    let before = c.args.self.now.waiting in
    let so_far = c.loop-node.invariant in
    let queued = c.in_ok-push_back.ensures.items in
    let low : node < length marks = let there = c.requires i 0 c.loop-node-test.true in omega (arith, there, so_far.same_nodes) in
    let unmarked : get_or marks node false ≡ false = get_or_default marks node false c.index.result.now low ∙ sym c.index.ensures ∙ c.if-index.false in
    record {
      kept = subst (λ xs. IsKept (set marks node true) xs) (sym queued) (kept_added marks queue node so_far.kept low);
      same_nodes = length-set marks node true ∙ so_far.same_nodes;
      so_far = subst (λ xs. Adds before xs (take (i + 1) nodes)) (sym queued) (adds_new before queue nodes i 0 c.loop-node-test.true so_far.so_far);
      fewer = subst (λ xs. length xs + idle (set marks node true) ≤ length before + c.args.self.now.nodes) (sym queued) (fewer_marked marks queue node (length before + c.args.self.now.nodes) low unmarked so_far.fewer);
    }
