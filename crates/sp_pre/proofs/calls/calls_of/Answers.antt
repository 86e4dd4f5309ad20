use Rattle.std.proofs.Common.{◌≡◌, ◌∙◌, ◌<◌, ◌+◌, [], ◌∷◌, ℕ, length, subst, sym, ap, arith}
use Rattle.std.proofs.lemmas.List.{length-map, length-append}
use Rattle.sp_ir.specs.Programs.{lowered_of}
use Rattle.sp_ir.specs.View.{node_of}
use Rattle.sp_base_sets.specs.Reached.{row}
use Rattle.sp_pre.specs.PointsTo.{AreCalls}
use Rattle.sp_pre.proofs.Calling.{ExactAt, pushed, all_calls}
use Rattle.sp_pre.proofs.calls.calls_of.Goals as goal

pub loop-node-preserved : goal.loop-node-preserved
loop-node-preserved c =
    let p = lowered_of c.args.lowered.now in
    let t = row c.args.rows.now in
    let lists = c.loop-node.lists.items in
    let set = c.in_ok-functions.functions in
    let node = c.loop-node.node in
    let before = c.loop-node.invariant in
    record {
      long = ap (λ xs. length xs) c.in_ok-push.ensures.items ∙ length-append lists (set ∷ []) ∙ ap (λ n. n + 1) before.long;
      exact = subst (λ xs. (n : ℕ) → n < node + 1 → ExactAt p t n (row xs n)) (sym c.in_ok-push.ensures.items) (pushed (ExactAt p t) lists set node before.long before.exact c.in_ok-functions.ensures);
    }

pub returns : goal.returns
returns c =
    let p = lowered_of c.args.lowered.now in
    let t = row c.args.rows.now in
    let nodes = c.args.lowered.now.nodes in
    let lists = c.loop-node.lists.items in
    let count : c.len-node-end.result ≡ length p.nodes = c.len-node-end.ensures ∙ nodes.ok.0 ∙ sym (length-map nodes.items node_of) in
    let end : c.loop-node.node ≡ length p.nodes = omega (arith, count, c.loop-node-test.false, c.loop-node.auto.node-end) in
    subst (λ xs. AreCalls p t xs) (sym c.new.ensures) (all_calls p t lists (c.loop-node.invariant.long ∙ end) (λ n low. c.loop-node.invariant.exact n (omega (arith, low, end))))
