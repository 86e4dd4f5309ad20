use Rattle.std.proofs.Common.{◌≡◌, ◌<◌, ℕ, true, map, take}
use Rattle.sp_lattice.specs.System.{has}
use Rattle.sp_effect_rows.specs.Setting.{count}
use Rattle.sp_effect_checks.specs.Cuts.{cut_names}
use Rattle.sp_effect_checks.specs.View.{access_of}
use Rattle.sp_effect_checks.proofs.cells.named_cells.Given as goal

-- the first ones' cells
abbrev pub invariant-loop-access : goal.invariant-loop-access
invariant-loop-access g l = record {
  low : (k : ℕ) → has k l.cells ≡ true → k < count (g.S.Scenery.scene l.scene).setting;
  named : (k : ℕ) → has k l.cells ≡ cut_names (g.S.Scenery.scene l.scene) (map access_of (take l.access-index l.accesses)) k;
}
