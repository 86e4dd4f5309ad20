use Rattle.std.proofs.Common.{◌≡◌, take}
use Rattle.sp_ir.specs.Programs.{lowered_of}
use Rattle.sp_ir.specs.Terrain.{terrain_of}
use Rattle.sp_ir.specs.Denoted.{element_region}
use Rattle.sp_base_sets.specs.Sets.{Images}
use Rattle.sp_points_expr.proofs.steps.elements.Given as goal

abbrev pub invariant-loop-region : goal.invariant-loop-region
invariant-loop-region l = Images (λ q r. element_region (terrain_of (lowered_of l.lowered)) q ≡ r) (take l.region-index l.numbers) l.set
