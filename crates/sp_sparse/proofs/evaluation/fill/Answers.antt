use Rattle.std.proofs.Common.{◌∙◌, ap}
use Rattle.sp_lattice.specs.System.{store_at, values_at}
use Rattle.sp_sparse.specs.inner.Grid.{table_at}
use Rattle.sp_sparse.proofs.GridLaws.{begins_with}
use Rattle.sp_sparse.proofs.evaluation.fill.Goals as goal

pub returns-clause-filled : goal.returns-clause-filled
returns-clause-filled g c =
    let m = g.S.System.meaning c.args.system.now in
    let bottom = g.S.Value.Lattice.order.bottom in
    let node = c.args.node in
    begins_with m bottom node (table_at bottom m.uses c.args.inputs.now node) c.evaluate.new.output _ (c.in_ok-evaluate.ensures.values ∙ ap (λ vs. values_at (m.effect node (store_at bottom (m.uses node) vs)) (m.defs node)) c.row.ensures)
