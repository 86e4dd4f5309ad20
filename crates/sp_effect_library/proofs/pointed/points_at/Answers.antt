use Rattle.std.proofs.Common.{◌≡◌, subst}
use Rattle.sp_lattice.specs.System.{has}
use Rattle.sp_base_sets.specs.Reached.{row}
use Rattle.sp_ir.specs.Programs.{lowered_of}
use Rattle.sp_ir.specs.Terrain.{terrain_of}
use Rattle.sp_ir.specs.Denoted.{regions_of}
use Rattle.sp_ir.specs.View.{expression_of}
use Rattle.sp_effect_library.proofs.Members.{both-ways}
use Rattle.sp_effect_library.proofs.pointed.points_at.Goals as goal

pub returns : goal.returns
returns c = λ r.
    subst (λ rows. has r c.in_ok-set.set ≡ has r (regions_of (terrain_of (lowered_of c.args.analysis.now.lowered)) (row rows) (expression_of c.args.expr.now))) c.rows-rows.ensures
    (both-ways (has r c.in_ok-set.set) (has r (regions_of (terrain_of (lowered_of c.args.analysis.now.lowered)) (row c.rows-rows.result.now) (expression_of c.args.expr.now)))
    (c.in_ok-set.ensures.sound r) (c.in_ok-set.ensures.whole (row c.rows-rows.result.now) (λ k q h m. m) r))
