use Rattle.std.proofs.Common.{◌<◌, ◌∙◌, sym, subst, get_or, arith}
use Rattle.sp_lattice.specs.System.{AllBelow}
use Rattle.sp_dense.proofs.Grids.{row_long, count_long}
use Rattle.sp_dense.proofs.Joining.{joined_one_more}
use Rattle.sp_dense.proofs.evaluation.input_row.Goals as goal

pub join_passed-requires-clause-other : goal.join_passed-requires-clause-other
join_passed-requires-clause-other g c =
    let m = g.S.System.meaning c.args.system.now in
    let rows = c.args.rows.now.items in
    let other = c.index-other.result.now in
    let from = get_or c.edges_into-edges.result.now c.loop-from.from-index 0 in
    let sys = g.met.S.System.lawful c.args.system.now in
    let below = subst (λ ps. AllBelow m.nodes ps) (sym c.edges_into-edges.ensures) (sys.into_below c.args.node c.requires.node) in
    other.ok.0 ∙ row_long m rows from other c.requires.grid (below c.loop-from.from-index 0 c.loop-from-test.true) c.index-other.ensures

pub loop-from-preserved : goal.loop-from-preserved
loop-from-preserved g c =
    let m = g.S.System.meaning c.args.system.now in
    let rows = c.args.rows.now.items in
    let edges = c.edges_into-edges.result.now in
    let sys = g.met.S.System.lawful c.args.system.now in
    let below = subst (λ ps. AllBelow m.nodes ps) (sym c.edges_into-edges.ensures) (sys.into_below c.args.node c.requires.node) in
    let low : get_or edges c.loop-from.from-index 0 < m.nodes = below c.loop-from.from-index 0 c.loop-from-test.true in
    joined_one_more g.S.Value.Lattice.order m rows c.args.node c.loop-from.from-index 0 c.index-other.result.now edges c.loop-from.row.items c.join_passed.new.row.items
    (omega (arith, low, count_long m rows c.requires.grid)) c.index-other.ensures c.loop-from-test.true c.loop-from.invariant c.in_ok-join_passed.ensures
