use Rattle.std.proofs.Common.{◌+◌, ◌&&◌, ◌∙◌, take, sym, subst}
use Rattle.sp_lattice.specs.System.{has}
use Rattle.sp_deps.specs.inner.Walk.{IsListed, Reaches}
use Rattle.sp_deps.specs.declared.walk.Walk.{Walk}
use Rattle.sp_deps.proofs.Walks.{reaches_edge, reaches_no_edge}
use Rattle.sp_deps.proofs.walk.look_behind.Goals as goal
use Rattle.sp_deps.proofs.walk.look_behind.Goals.{then-passes+in_ok-reach, else-passes}

pub loop-from-preserved : goal.loop-from-preserved
loop-from-preserved g c =
    let m = g.S.System.meaning c.args.system.now in
    let l = c.args.location in
    let n = c.args.node in
    let old = c.args.walk.now in
    let now = c.loop-from.walk in
    let edges = c.edges_into-edges.result.now in
    let i = c.loop-from.from-index in
    let P : Walk → Type 0 = λ w. record { listed : IsListed m l w; so_far : Reaches old w (λ k. has k (take (i + 1) edges) && m.passes k n l) } in
    elim c.if-passes.branch [
      | then-passes+in_ok-reach w ↦ subst P (sym w.walk-is) (record {
        listed = w.in_ok-reach.ensures.listed;
        so_far = reaches_edge m l old now w.reach.new.walk n edges i 0 c.loop-from-test.true (sym c.passes-passes.ensures ∙ w.if-passes.true) c.loop-from.invariant.so_far w.in_ok-reach.ensures.reaches;
      })
      | else-passes w ↦ subst P (sym w.walk-is) (record {
        listed = c.loop-from.invariant.listed;
        so_far = reaches_no_edge m l old now n edges i 0 c.loop-from-test.true (sym c.passes-passes.ensures ∙ w.if-passes.false) c.loop-from.invariant.so_far;
      })
    ]
