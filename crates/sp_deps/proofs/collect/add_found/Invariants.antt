use Rattle.std.proofs.Common.{length, take}
use Rattle.sp_lattice.specs.System.{has}
use Rattle.sp_deps.specs.inner.Progress.{AreRows, Gains}
use Rattle.sp_deps.proofs.collect.add_found.Given as goal

abbrev pub invariant-loop-from : goal.invariant-loop-from
invariant-loop-from l = record {
  kept : AreRows (length l.fn.deps) l.deps;
  so_far : Gains l.fn.deps l.deps (λ b. has b (take l.from-index l.found)) l.location l.to;
}
