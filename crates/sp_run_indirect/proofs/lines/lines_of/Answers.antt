use Rattle.std.proofs.Common.{◌≡◌, ◌∙◌, ◌+◌, ◌<◌, ◌++◌, length, get_or, drop, map, ap, subst, arith}
use Rattle.std.proofs.lemmas.List.{length-map}
use Rattle.sp_ir.specs.Programs.{lowered_of}
use Rattle.sp_ir.specs.View.{node_of}
use Rattle.sp_base_sets.specs.Sets.{Ascends}
use Rattle.sp_base_sets.specs.Reached.{row}
use Rattle.sp_run_indirect.specs.Texts.{node_text, lines_from}
use Rattle.sp_run_indirect.proofs.LineLaws.{lines_step, one_more}
use Rattle.sp_run_indirect.proofs.lines.lines_of.Goals as goal

pub loop-k-preserved : goal.loop-k-preserved
loop-k-preserved c =
    let p = lowered_of c.args.lowered.now in
    let names = c.args.names.now in
    let calls = c.args.calls.now in
    let nodes = c.args.lowered.now.nodes.items in
    let k = c.loop-k.k in
    let low : k < length nodes = rw c.deref-node-items.ensures.value at c.loop-k-test.true in
    let is : c.node-item.result ≡ get_or nodes k c.node-item.result =
    rw c.deref-node-items.ensures.value at c.node-item.is in
    let line = c.in_ok-add_node.ensures
    ∙ ap (λ l. c.loop-k.text.items ++ node_text names p (node_of c.node-item.result) l)
    c.callees-callees.ensures.functions
    ∙ ap (λ n. c.loop-k.text.items ++ node_text names p (node_of n) (row calls k)) is in
    record {
      told = ap (λ l. l ++ lines_from names p calls (k + 1) (drop (k + 1) (map node_of nodes))) line
          ∙ lines_step node_of names p calls k c.node-item.result nodes c.loop-k.text.items low
          ∙ c.loop-k.invariant.told;
      in_order = one_more (λ n. Ascends (row calls n)) k c.loop-k.invariant.in_order
          (subst Ascends c.callees-callees.ensures.functions c.callees-callees.ensures.ascending);
    }

pub returns-clause-in_order : goal.returns-clause-in_order
returns-clause-in_order c n low =
    let count = length-map c.args.lowered.now.nodes.items node_of in
    let same = ap (λ xs. length xs) c.deref-node-items.ensures.value in
    c.loop-k.invariant.in_order n (omega (arith, low, count, same, c.loop-k-test.false))
