-- The scene of every whole analysis is one.
use Rattle.std.proofs.Common.{◌<◌, ◌^◌, arith}
use Rattle.std.specs.Prelude.{All}
use Rattle.std.proofs.Props.{props}
use Rattle.std.proofs.Math.Logic.{∥∥₁_elim}
use Rattle.sp_lattice.specs.Ladder.{IsLadder-prop}
use Rattle.sp_ir.specs.Regions.{is_cell}
use Rattle.sp_ir.specs.Terrain.{Terrain, IsTerrain}
use Rattle.sp_ir.specs.TerrainLaws.{terrain_lawful}
use Rattle.sp_effect_rows.specs.Setting.{Setting, IsSetting}
use Rattle.sp_effect_assign.specs.Scene.{Scene, IsScene}
use Rattle.sp_effect_scene.specs.Analysed.{Analysed, scene_of, locations_of}
use Rattle.sp_effect_scene.specs.Whole.{IsAnalysed}
use Rattle.sp_effect_scene.specs.Cells.{numbers-within, numbers-rise}

IsTerrain-prop : (g : Terrain) → IsProp (IsTerrain g)
IsTerrain-prop g = hlevel props

IsSetting-prop : (a : Setting) → IsProp (IsSetting a)
IsSetting-prop a = hlevel (props, IsLadder-prop)

pub IsScene-prop : (c : Scene) → IsProp (IsScene c)
IsScene-prop c = hlevel (props, IsTerrain-prop, IsSetting-prop)

locations-low : (a : Analysed) → IsAnalysed a → All (λ r. r < 2 ^ 32) (locations_of a.program)
locations-low a whole k d low = let h = (numbers-within is_cell 0 a.program.regions k d low).1 in omega (arith, h, whole.formed.few_regions)

pub scene-is : (a : Analysed) → IsAnalysed a → IsScene (scene_of a)
scene-is a whole = record {
  terrain = terrain_lawful a.program;
  setting = record {
    ladder = whole.ladder;
    cells = numbers-rise is_cell 0 a.program.regions;
    low = locations-low a whole;
    points_to = whole.ascending;
  };
}

pub scene_lawful : (a : Analysed) → ∥ IsAnalysed a ∥₁ → IsScene (scene_of a)
scene_lawful a whole = ∥∥₁_elim whole (IsScene-prop (scene_of a)) (scene-is a)
