use Rattle.std.proofs.Common.{◌≡◌, [], length}
use Rattle.sp_deps.specs.inner.Walk.{IsFresh}
use Rattle.sp_deps.specs.inner.Progress.{AreUpTo, is_done}
use Rattle.sp_deps.proofs.collect.dependencies_with.Given as goal

abbrev pub invariant-locations : goal.invariant-locations
invariant-locations g l =
    let m = g.S.System.meaning l.system in
    record {
      fresh : IsFresh m.nodes l.walk;
      places : length l.earlier.place.items ≡ m.nodes;
      heads : l.stretches.heads.items ≡ l.initial.stretches.heads.items;
      so_far : AreUpTo m l.deps (is_done l.location []);
    }
