use Rattle.std.proofs.Common.{ap, ◌∙◌}
use Rattle.sp_ir.specs.Programs.{lowered_of}
use Rattle.sp_ir.specs.Terrain.{terrain_of}
use Rattle.sp_ir.specs.View.{lvalue_of}
use Rattle.sp_effect_assign.specs.Destinations.{region_under}
use Rattle.sp_effect_assume.specs.Sides.{root_of}
use Rattle.sp_effect_assume.proofs.sides.direct_region.Goals as goal

pub returns : goal.returns
returns g c =
    let lvalue = lvalue_of c.args.lvalue.now in
    c.region_under.ensures ∙ ap (λ r. region_under (terrain_of (lowered_of c.lowered-lowered.result.now)) lvalue r) c.root_of-root.ensures
    ∙ ap (λ t. region_under t lvalue (root_of t lvalue)) c.lowered-lowered.ensures
