use Rattle.std.proofs.Common.{◌≡◌, ◌++◌, length, take, drop, sym, ap, subst, arith}
use Rattle.sp_sparse.specs.inner.Grid.{table_at, BeginsWith}
use Rattle.sp_sparse.proofs.GridLaws.{evaluates, updated_grid, returned_whole}
use Rattle.sp_sparse.proofs.evaluation.evaluate.Goals as goal

pub returns-clause-grid : goal.returns-clause-grid
returns-clause-grid g c =
    let m = g.S.System.meaning c.args.system.now in
    let sys = g.met.S.System.lawful c.args.system.now in
    let o = g.S.Value.Lattice.order in
    let ins = table_at o.bottom m.uses c.args.inputs.now in
    let made = take c.args.row.now.len (c.fill.new.row ++ drop (length c.fill.new.row) c.args.row.now.items) in
    let back : length c.fill.new.row ≡ c.args.row.now.len = omega (arith, c.fill.auto.row, ap length c.deref_mut.ensures.value, c.args.row.now.ok.0) in
    let begins : BeginsWith m o.bottom c.args.node (ins c.args.node) made = subst (BeginsWith m o.bottom c.args.node (ins c.args.node)) (sym (returned_whole c.args.row.now.items c.fill.new.row c.args.row.now.len back (sym c.args.row.now.ok.0))) c.in_ok-fill.ensures.filled in
    updated_grid o m ins made c.args.outputs.now c.update.new.outputs c.args.node c.update.new.grown.items c.requires.node (sys.defs_ascend c.args.node c.requires.node) c.requires.outputs begins c.in_ok-update.ensures.updated

pub returns-clause-evaluated : goal.returns-clause-evaluated
returns-clause-evaluated g c =
    let m = g.S.System.meaning c.args.system.now in
    let sys = g.met.S.System.lawful c.args.system.now in
    let o = g.S.Value.Lattice.order in
    let ins = table_at o.bottom m.uses c.args.inputs.now in
    let made = take c.args.row.now.len (c.fill.new.row ++ drop (length c.fill.new.row) c.args.row.now.items) in
    let back : length c.fill.new.row ≡ c.args.row.now.len = omega (arith, c.fill.auto.row, ap length c.deref_mut.ensures.value, c.args.row.now.ok.0) in
    let begins : BeginsWith m o.bottom c.args.node (ins c.args.node) made = subst (BeginsWith m o.bottom c.args.node (ins c.args.node)) (sym (returned_whole c.args.row.now.items c.fill.new.row c.args.row.now.len back (sym c.args.row.now.ok.0))) c.in_ok-fill.ensures.filled in
    evaluates o m ins made c.args.outputs.now c.update.new.outputs c.args.node c.update.new.grown.items c.requires.node (sys.defs_ascend c.args.node c.requires.node) c.requires.outputs begins c.in_ok-update.ensures.updated

pub returns-clause-low : goal.returns-clause-low
returns-clause-low g c p h =
    let updated = c.in_ok-update.ensures.updated in
    omega (arith, updated.row.low p h, c.requires.outputs.rows_long c.args.node c.requires.node)
