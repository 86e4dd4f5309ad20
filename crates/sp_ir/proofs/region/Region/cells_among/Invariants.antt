use Rattle.std.proofs.Common.{◌≡◌, ◌++◌, ◌&&◌, map, drop}
use Rattle.sp_ir.specs.Regions.{region_of, is_cell, is_under, numbers_of}
use Rattle.sp_ir.proofs.region.Region.cells_among.Given as goal

-- the cells found, and those among the regions that are left
abbrev pub invariant-regions : goal.invariant-regions
invariant-regions l = l.cells.items ++ numbers_of (λ r. is_cell r && is_under (region_of l.above) r) l.i (map region_of (drop l.i l.regions))
    ≡ numbers_of (λ r. is_cell r && is_under (region_of l.above) r) 0 (map region_of l.regions)
