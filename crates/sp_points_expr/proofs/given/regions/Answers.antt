use Rattle.sp_ir.specs.Programs.{lowered_of}
use Rattle.sp_ir.specs.View.{expression_of}
use Rattle.sp_ir.specs.Terrain.{terrain_of}
use Rattle.sp_base_sets.specs.Reached.{row}
use Rattle.sp_points_expr.proofs.Held.{gives_to, gives_from}
use Rattle.sp_points_expr.proofs.given.regions.Goals as goal

pub returns-clause-sound : goal.returns-clause-sound
returns-clause-sound c r h = gives_to (terrain_of (lowered_of c.args.lowered.now)) (row c.args.rows.now) (expression_of c.args.expr.now) r (c.in_ok-set.ensures.sound r h)

pub returns-clause-whole : goal.returns-clause-whole
returns-clause-whole c u limited r h = c.in_ok-set.ensures.whole u limited r (gives_from (terrain_of (lowered_of c.args.lowered.now)) u (expression_of c.args.expr.now) r h)
