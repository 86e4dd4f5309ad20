use Rattle.std.proofs.Common.{◌∙◌, ◌∷◌, [], ◌++◌, length, get_or, ap, subst, arith}
use Rattle.sp_deps.specs.Rows.{held}
use Rattle.sp_sparse.specs.inner.Links.{AreLinks}
use Rattle.sp_sparse.proofs.Laying.{laying_more, laying_next, pairs_used, links_held}
use Rattle.sp_sparse.proofs.links.links_of.Goals as goal

pub links_from-requires-clause-used : goal.links_from-requires-clause-used
links_from-requires-clause-used g c =
    let m = g.S.System.meaning c.args.system.now in
    pairs_used m c.args.deps.now c.nodes.node c.in_ok-pairs.pairs.items c.in_ok-pairs.ensures.pairs c.requires.exact

pub definitions-preserved : goal.definitions-preserved
definitions-preserved g c =
    let m = g.S.System.meaning c.args.system.now in
    let deps = c.args.deps.now in
    let node = c.nodes.node in
    let k = c.definitions.location-index in
    let row = c.links_from.new.links.items in
    let told = links_held m deps node c.in_ok-pairs.pairs.items c.in_ok-pairs.ensures.pairs (get_or c.defs-defs.result.now k 0) row c.in_ok-links_from.ensures in
    laying_more m (held deps) c.definitions.rows c.push_row.new.self row node k
    (c.in_ok-push_row.ensures.pushed ∙ ap (λ r. c.definitions.rows ++ r ∷ []) c.deref.ensures.value)
    (subst (λ ls. AreLinks m (held deps) node (get_or ls k 0) row) c.defs-defs.ensures told)
    c.definitions.invariant

pub nodes-preserved : goal.nodes-preserved
nodes-preserved g c =
    let m = g.S.System.meaning c.args.system.now in
    let deps = c.args.deps.now in
    let node = c.nodes.node in
    let k = c.definitions.location-index in
    laying_next m (held deps) c.definitions.rows node k (omega (arith, c.definitions-test.false, c.definitions.auto.location-index-end, ap length c.defs-defs.ensures)) c.definitions.invariant
