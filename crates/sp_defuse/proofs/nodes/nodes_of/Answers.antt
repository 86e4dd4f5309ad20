use Rattle.std.proofs.Common.{◌≡◌, suc, ◌+◌, List, [], ◌∷◌, ◌++◌, take, sym, subst, arith}
use Rattle.sp_effect_scene.specs.View.{analysed_of}
use Rattle.sp_defuse.specs.Nodes.{IsNode, AreNodes}
use Rattle.sp_defuse.specs.declared.nodes.Node.{Node}
use Rattle.sp_defuse.proofs.Lists.{each-next}
use Rattle.sp_defuse.proofs.nodes.nodes_of.Goals as goal

pub loop-number-preserved : goal.loop-number-preserved
loop-number-preserved c =
    let a = analysed_of c.args.analysis.now in
    let i = c.loop-number.number-index in
    let ns = c.nodes-number-items.result.now in
    let next : suc i ≡ i + 1 = omega arith in
    subst (λ xs. AreNodes a c.args.sharp (take (i + 1) ns) xs) (sym {A = List Node} c.in_ok-push.ensures.items)
    (subst (λ k. AreNodes a c.args.sharp (take k ns) (c.loop-number.nodes.items ++ c.in_ok-node_at.field-0 ∷ [])) next
    (each-next (IsNode a c.args.sharp) ns c.loop-number.nodes.items i 0 c.in_ok-node_at.field-0 c.loop-number-test.true c.loop-number.invariant c.in_ok-node_at.ensures))
