use Rattle.std.proofs.Common.{◌≢◌, ◌<◌, ℕ}
use Rattle.sp_base_sets.specs.Circling.{state_of, stage_at, IsIdle}
use Rattle.sp_base_sets.specs.declared.circles.Stage.TheVariants.{New}
use Rattle.sp_base_sets.proofs.circles.in_circles.Given as goal

abbrev pub invariant-roots : goal.invariant-roots
invariant-roots l = record {
  idle : IsIdle l.lists (state_of l.search);
  seen : (n : ℕ) → n < l.number → stage_at (state_of l.search) n ≢ New;
}
