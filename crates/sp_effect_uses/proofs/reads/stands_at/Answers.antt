use Rattle.std.proofs.Common.{◌≡◌}
use Rattle.sp_lattice.specs.System.{has}
use Rattle.sp_base_sets.specs.Reached.{row}
use Rattle.sp_ir.specs.Programs.{lowered_of}
use Rattle.sp_ir.specs.Terrain.{terrain_of}
use Rattle.sp_ir.specs.Denoted.{cells_of}
use Rattle.sp_ir.specs.View.{lvalue_of}
use Rattle.sp_effect_uses.proofs.Steps.{both-ways, changed}
use Rattle.sp_effect_uses.proofs.reads.stands_at.Goals as goal

pub returns : goal.returns
returns c = λ r.
    changed (λ rows. has r c.in_ok-set.set ≡ has r (cells_of (terrain_of (lowered_of c.args.analysis.now.lowered)) (row rows) (lvalue_of c.args.lvalue.now))) c.rows-rows.ensures
    (both-ways (has r c.in_ok-set.set) (has r (cells_of (terrain_of (lowered_of c.args.analysis.now.lowered)) (row c.rows-rows.result.now) (lvalue_of c.args.lvalue.now)))
    (c.in_ok-set.ensures.sound r) (c.in_ok-set.ensures.whole (row c.rows-rows.result.now) (λ k q h m. m) r))
