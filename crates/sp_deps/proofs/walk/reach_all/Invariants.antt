use Rattle.std.proofs.Common.{take}
use Rattle.sp_lattice.specs.System.{has}
use Rattle.sp_deps.specs.inner.Walk.{IsListed, Reaches}
use Rattle.sp_deps.proofs.walk.reach_all.Given as goal

abbrev pub invariant-loop-node : goal.invariant-loop-node
invariant-loop-node g l = record {
  listed : IsListed (g.S.System.meaning l.system) l.location l.walk;
  so_far : Reaches l.fn.walk l.walk (λ k. has k (take l.node-index l.nodes));
}
