use Rattle.std.proofs.Common.{◌&&◌, take}
use Rattle.sp_lattice.specs.System.{has}
use Rattle.sp_deps.specs.inner.Walk.{IsListed, Reaches}
use Rattle.sp_deps.proofs.walk.look_behind.Given as goal

abbrev pub invariant-loop-from : goal.invariant-loop-from
invariant-loop-from g l =
    let m = g.S.System.meaning l.system in
    record {
      listed : IsListed m l.location l.walk;
      so_far : Reaches l.fn.walk l.walk (λ k. has k (take l.from-index l.edges) && m.passes k l.node l.location);
    }
