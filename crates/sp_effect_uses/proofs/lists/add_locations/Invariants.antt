use Rattle.std.proofs.Common.{◌≡◌, ◌<◌, ℕ, true, nat_eq, take}
use Rattle.std.specs.List.{list_any}
use Rattle.sp_lattice.specs.System.{has}
use Rattle.sp_effect_rows.specs.Setting.{count, cell_of}
use Rattle.sp_effect_scene.specs.Analysed.{setting_of}
use Rattle.sp_effect_scene.specs.View.{analysed_of}
use Rattle.sp_effect_uses.specs.Parts.{Adds}
use Rattle.sp_effect_uses.proofs.lists.add_locations.Given as goal

abbrev pub invariant-loop-region : goal.invariant-loop-region
invariant-loop-region l = Adds (λ r. list_any (λ x. nat_eq x (cell_of (setting_of (analysed_of l.analysis)) r)) (take l.region-index l.regions)) l.fn.places l.places
    × ((k : ℕ) → has k l.places ≡ true → k < count (setting_of (analysed_of l.analysis)))
