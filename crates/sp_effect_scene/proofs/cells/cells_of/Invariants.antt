use Rattle.std.proofs.Common.{◌≡◌, ◌++◌, drop}
use Rattle.sp_ir.specs.Regions.{is_cell, numbers_of}
use Rattle.sp_ir.specs.Programs.{lowered_of}
use Rattle.sp_effect_scene.proofs.cells.cells_of.Given as goal

-- the cells found, and those among the regions that are left
abbrev pub invariant-loop-region : goal.invariant-loop-region
invariant-loop-region l = l.cells.items ++ numbers_of is_cell l.region (drop l.region (lowered_of l.lowered).regions)
    ≡ numbers_of is_cell 0 (lowered_of l.lowered).regions
