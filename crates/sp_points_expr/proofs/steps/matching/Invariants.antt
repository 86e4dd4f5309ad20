use Rattle.std.proofs.Common.{◌≡◌, ◌&&◌, ℕ, take}
use Rattle.sp_ir.specs.Programs.{lowered_of}
use Rattle.sp_ir.specs.View.{lvalue_of}
use Rattle.sp_ir.specs.Terrain.{terrain_of}
use Rattle.sp_base_sets.specs.Sets.{has}
use Rattle.sp_points_expr.specs.Given.{is_matched}
use Rattle.sp_points_expr.proofs.steps.matching.Given as goal

abbrev pub invariant-loop-region : goal.invariant-loop-region
invariant-loop-region l = (n : ℕ) → has n l.set ≡ (has n (take l.region-index l.numbers) && is_matched (terrain_of (lowered_of l.lowered)) (lvalue_of l.lvalue) n)
