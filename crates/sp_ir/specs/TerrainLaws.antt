-- What holds of the terrain of every program.
use Rattle.std.proofs.Common.{◌<◌, ◌^◌, Option, Some, None, slice_get, arith}
use Rattle.sp_ir.specs.Regions.{Region}
use Rattle.sp_ir.specs.Programs.{Lowered}
use Rattle.sp_ir.specs.Terrain.{IsTerrain, terrain_of, fixed_count, element_bytes}

count-fits : (r : Option Region) → fixed_count r < 2 ^ 63
count-fits None = omega arith
count-fits (Some r) = grind arith

size-proper : (r : Option Region) → 0 < element_bytes r
size-proper None = omega arith
size-proper (Some r) = grind arith

pub terrain_lawful : (p : Lowered) → IsTerrain (terrain_of p)
terrain_lawful p = record {
  count_fits = λ r. count-fits (slice_get p.regions r);
  size_proper = λ r. size-proper (slice_get p.regions r);
}
