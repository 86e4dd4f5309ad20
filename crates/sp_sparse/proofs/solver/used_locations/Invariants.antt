use Rattle.std.proofs.Common.{◌≡◌, ◌<◌, ℕ, length}
use Rattle.sp_lattice.specs.Flat.{row_at}
use Rattle.sp_sparse.proofs.solver.used_locations.Given as goal

abbrev pub invariant-loop-node : goal.invariant-loop-node
invariant-loop-node g l = record {
  long : length l.lists ≡ l.node;
  same : (n : ℕ) → n < l.node → row_at l.lists n ≡ (g.S.System.meaning l.system).uses n;
}
