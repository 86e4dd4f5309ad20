use Rattle.sp_ir.specs.Programs.{lowered_of}
use Rattle.sp_ir.specs.View.{lvalue_of}
use Rattle.sp_ir.specs.Terrain.{terrain_of}
use Rattle.sp_base_sets.specs.Reached.{row}
use Rattle.sp_points_expr.proofs.Held.{stores_to, stores_from}
use Rattle.sp_points_expr.proofs.given.cells.Goals as goal

pub returns-clause-sound : goal.returns-clause-sound
returns-clause-sound c r h = stores_to (terrain_of (lowered_of c.args.lowered.now)) (row c.args.rows.now) (lvalue_of c.args.lvalue.now) r (c.in_ok-set.ensures.sound r h)

pub returns-clause-whole : goal.returns-clause-whole
returns-clause-whole c u limited r h = c.in_ok-set.ensures.whole u limited r (stores_from (terrain_of (lowered_of c.args.lowered.now)) u (lvalue_of c.args.lvalue.now) r h)
