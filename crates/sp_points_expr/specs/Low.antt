-- Where a terrain leads.
use Rattle.std.specs.Prelude.{◌<◌, ℕ}
use Rattle.sp_ir.specs.Terrain.{Terrain}

-- every region to which the terrain leads is below a count
pub record IsBelow (height : ℕ) (g : Terrain) : Type 0 where
  pub root : (o : ℕ) → g.root o < height
  pub member : (r k : ℕ) → g.member r k < height
  pub element : (r : ℕ) → g.element r < height
