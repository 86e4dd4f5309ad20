use Rattle.std.proofs.Common.{◌≡◌, map, replicate}
use Rattle.sp_dense.proofs.solver.bottom_rows.Given as goal

abbrev pub invariant-loop : goal.invariant-loop
invariant-loop g l =
    map (λ row. row.items) l.rows.items ≡ replicate l.counter (replicate (g.S.System.meaning l.system).locations g.S.Value.Lattice.order.bottom)
