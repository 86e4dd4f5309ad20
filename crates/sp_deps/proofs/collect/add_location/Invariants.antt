use Rattle.std.proofs.Common.{take}
use Rattle.sp_deps.specs.inner.Walk.{IsFresh, AreKnown}
use Rattle.sp_deps.specs.inner.Progress.{AreUpTo, is_done}
use Rattle.sp_deps.proofs.collect.add_location.Given as goal

abbrev pub invariant-loop-to : goal.invariant-loop-to
invariant-loop-to g l =
    let m = g.S.System.meaning l.system in
    record {
      fresh : IsFresh m.nodes l.walk;
      known : AreKnown m l.location l.earlier;
      so_far : AreUpTo m l.deps (is_done l.location (take l.to-index l.targets));
    }
