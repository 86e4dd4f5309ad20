use Rattle.std.proofs.Common.{take, ◌&&◌, nat_eq}
use Rattle.std.specs.List.{list_any}
use Rattle.sp_effect_scene.specs.View.{analysed_of}
use Rattle.sp_ir.specs.Terrain.{terrain_of}
use Rattle.sp_ir.specs.View.{lvalue_of}
use Rattle.sp_effect_assign.specs.Destinations.{bottom_accepts, region_under}
use Rattle.sp_effect_uses.specs.Parts.{Adds}
use Rattle.sp_effect_uses.proofs.writes.add_each_place.Given as goal

abbrev pub invariant-loop-region : goal.invariant-loop-region
invariant-loop-region l = Adds (λ r. list_any (λ x. bottom_accepts (terrain_of (analysed_of l.analysis).program) (lvalue_of l.to) x && nat_eq r (region_under (terrain_of (analysed_of l.analysis).program) (lvalue_of l.to) x)) (take l.region-index l.regions)) l.fn.set l.set
