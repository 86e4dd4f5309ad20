use Rattle.std.proofs.Common.{◌≡◌, suc, ◌+◌, List, [], ◌∷◌, ◌++◌, take, sym, subst, arith}
use Rattle.sp_defuse.specs.Sources.{IsSources, AreSources}
use Rattle.sp_defuse.specs.declared.sources.Sources.{Sources}
use Rattle.sp_defuse.proofs.Lists.{each-next}
use Rattle.sp_defuse.proofs.sources.Sources.all.Goals as goal

pub loop-node-preserved : goal.loop-node-preserved
loop-node-preserved c =
    let g = c.args.flow.now in
    let i = c.loop-node.node-index in
    let ns = c.nodes-node-items.result.now in
    let next : suc i ≡ i + 1 = omega arith in
    subst (λ xs. AreSources g (take (i + 1) ns) xs) (sym {A = List Sources} c.in_ok-push.ensures.items)
    (subst (λ k. AreSources g (take k ns) (c.loop-node.all.items ++ c.in_ok-new.field-0 ∷ [])) next
    (each-next (IsSources g) ns c.loop-node.all.items i 0 c.in_ok-new.field-0 c.loop-node-test.true c.loop-node.invariant c.in_ok-new.ensures))
