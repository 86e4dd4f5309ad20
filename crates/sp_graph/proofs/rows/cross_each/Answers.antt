use Rattle.std.proofs.Common.{◌≡◌, ◌<◌, ◌∙◌, ℕ, [], length, subst, arith}
use Rattle.std.proofs.lemmas.List.{get_or_default}
use Rattle.sp_ir.specs.Programs.{lowered_of}
use Rattle.sp_graph.specs.Rows.{Joins, Crosses}
use Rattle.sp_graph.proofs.Joining.{joins_loop, crosses_joins}
use Rattle.sp_graph.proofs.rows.cross_each.Goals as goal

pub loop-node-preserved : goal.loop-node-preserved
loop-node-preserved c =
    let p = lowered_of c.args.lowered.now in
    let nodes = c.args.nodes.now in
    let calls = c.args.calls.now in
    let at = c.loop-node.node in
    let is = c.as_slice.ensures.numbers ∙ c.index-calls-node.is ∙ get_or_default calls at c.index-calls-node.result [] c.loop-node-test.true in
    joins_loop (λ k. Crosses p nodes calls c.args.local k) at c.args.rows.now.items c.loop-node.rows.items c.come_back.new.rows.items c.loop-node.invariant
    (crosses_joins p nodes calls c.args.local at c.as_slice.result.now c.loop-node.rows.items c.enter_each.new.rows.items c.come_back.new.rows.items is c.in_ok-enter_each.ensures c.in_ok-come_back.ensures)

pub returns : goal.returns
returns c =
    let is : c.loop-node.node ≡ length c.args.calls.now = omega (arith, c.loop-node-test.false) in
    subst (λ n. Joins (λ e. (k : ℕ) × (k < n) × Crosses (lowered_of c.args.lowered.now) c.args.nodes.now c.args.calls.now c.args.local k e) c.args.rows.now.items c.loop-node.rows.items) is c.loop-node.invariant
