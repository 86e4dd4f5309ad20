use Rattle.sp_effect_checks.proofs.Fitting.{met-offset}
use Rattle.sp_effect_checks.proofs.cuts.CuttingAtTarget.at.Goals as goal

pub placed_at-requires-clause-offset : goal.placed_at-requires-clause-offset
placed_at-requires-clause-offset c = rw c.met.ensures (met-offset c.args.target.offset c.shifted-from.result c.requires.offset)
