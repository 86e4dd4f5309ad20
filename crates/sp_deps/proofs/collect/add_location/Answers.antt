use Rattle.sp_deps.proofs.Finding.{target_low, target_uses, sound_upto, before_target, upto_more, upto_next}
use Rattle.sp_deps.specs.inner.Progress.{is_done}
use Rattle.std.proofs.Common.{take, arith}
use Rattle.sp_deps.proofs.collect.add_location.Goals as goal

pub add_use-requires-clause-to : goal.add_use-requires-clause-to
add_use-requires-clause-to g c = target_low (g.S.System.meaning c.args.system.now) c.args.location c.args.targets.now c.requires.targets c.loop-to.to-index 0 c.loop-to-test.true

pub add_use-requires-clause-used : goal.add_use-requires-clause-used
add_use-requires-clause-used g c = target_uses (g.S.System.meaning c.args.system.now) c.args.location c.args.targets.now c.requires.targets c.loop-to.to-index 0 c.loop-to-test.true

pub add_use-requires-clause-sound : goal.add_use-requires-clause-sound
add_use-requires-clause-sound g c = sound_upto (g.S.System.meaning c.args.system.now) c.loop-to.deps (is_done c.args.location (take c.loop-to.to-index c.args.targets.now)) c.loop-to.invariant.so_far

pub add_use-requires-clause-before : goal.add_use-requires-clause-before
add_use-requires-clause-before g c =
    before_target (g.S.System.meaning c.args.system.now) c.args.location c.args.targets.now c.requires.targets c.loop-to.deps c.loop-to.to-index 0 c.loop-to-test.true c.loop-to.invariant.so_far

pub loop-to-preserved : goal.loop-to-preserved
loop-to-preserved g c = record {
  fresh = c.in_ok-add_use.ensures.fresh;
  known = c.in_ok-add_use.ensures.known;
  so_far =
      upto_more (g.S.System.meaning c.args.system.now) c.args.location c.args.targets.now c.requires.targets c.loop-to.deps c.add_use.new.deps c.loop-to.to-index 0 c.loop-to-test.true c.in_ok-add_use.ensures.rows
      c.in_ok-add_use.ensures.gains c.loop-to.invariant.so_far;
}

pub returns-clause-done : goal.returns-clause-done
returns-clause-done g c =
    upto_next (g.S.System.meaning c.args.system.now) c.args.location c.args.targets.now c.requires.targets c.loop-to.deps c.loop-to.to-index (omega (arith, c.loop-to-test.false)) c.loop-to.invariant.so_far
