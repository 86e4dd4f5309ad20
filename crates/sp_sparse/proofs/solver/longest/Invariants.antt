use Rattle.std.proofs.Common.{◌<◌, ◌≤◌, ℕ, length}
use Rattle.sp_lattice.specs.Flat.{row_at}
use Rattle.sp_sparse.proofs.solver.longest.Given as goal

abbrev pub invariant-loop-row : goal.invariant-loop-row
invariant-loop-row l = (n : ℕ) → n < l.row → length (row_at l.rows n) ≤ l.most
