use Rattle.std.proofs.Common.{◌≡◌, ◌<◌, ◌∙◌, ℕ, List, [], length, replicate, ap, subst, arith}
use Rattle.std.proofs.lemmas.List.{get_or_default, length-map}
use Rattle.sp_ir.specs.Programs.{lowered_of, code_of}
use Rattle.sp_graph.specs.Rows.{Grows, CallsAt}
use Rattle.sp_graph.proofs.Calling.{grows_loop, grows_at, all_lists}
use Rattle.sp_graph.proofs.functions.lists_of.Goals as goal

pub loop-node-preserved : goal.loop-node-preserved
loop-node-preserved c =
    let p = lowered_of c.args.lowered.now in
    let calls = c.args.calls.now in
    let at = c.loop-node.node in
    let is = c.as_slice.ensures.numbers ∙ c.index-calls-node.is ∙ get_or_default calls at c.index-calls-node.result [] c.loop-node-test.true in
    grows_loop (λ k f g. CallsAt p calls k f g) at c.in_ok-lists.lists.items c.loop-node.lists.items c.add_calls.new.lists.items c.loop-node.invariant
    (grows_at p calls at c.function_of-function.result c.as_slice.result.now c.loop-node.lists.items c.add_calls.new.lists.items c.function_of-function.ensures is c.in_ok-add_calls.ensures)

pub returns : goal.returns
returns c =
    let p = lowered_of c.args.lowered.now in
    let functions = c.args.lowered.now.functions in
    let is : c.loop-node.node ≡ length c.args.calls.now = omega (arith, c.loop-node-test.false) in
    let count : c.len.result ≡ length p.functions = omega (arith, c.len.ensures, functions.ok, length-map functions.items code_of) in
    all_lists p c.args.calls.now c.in_ok-lists.lists.items c.loop-node.lists.items c.requires.formed (c.in_ok-lists.ensures ∙ ap (λ n. replicate {A = List ℕ} n []) count)
    (subst (λ n. Grows (λ f g. (k : ℕ) × (k < n) × CallsAt p c.args.calls.now k f g) c.in_ok-lists.lists.items c.loop-node.lists.items) is c.loop-node.invariant)
