use Rattle.std.proofs.Common.{◌≡◌, ◌++◌, ◌∷◌, [], length, sym, subst, ap, arith}
use Rattle.std.proofs.lemmas.List.{length_push}
use Rattle.sp_deps.specs.inner.Stretches.{AreHeads, IsHead}
use Rattle.sp_deps.proofs.Stretching.{heads_more}
use Rattle.sp_deps.proofs.stretches.heads_of.Goals as goal

pub nodes-preserved : goal.nodes-preserved
nodes-preserved g c =
    let m = g.S.System.meaning c.args.system.now in
    let heads = c.nodes.heads.items in
    let head = c.next_head-head.result in
    let is : c.push.new.self.items ≡ heads ++ head ∷ [] = c.in_ok-push.ensures.items in
    let next : IsHead m heads (length heads) head =
    subst (λ n. IsHead m heads n head) (sym c.nodes.invariant.long) (subst (λ xs. IsHead m xs c.nodes.node head) c.deref.ensures.value c.next_head-head.ensures.head) in
    record {
      long = omega (arith, ap length is, length_push heads head, c.nodes.invariant.long);
      heads = subst (λ xs. AreHeads m xs) (sym is) (heads_more m heads head c.next_head-head.ensures.low next c.nodes.invariant.heads);
    }
