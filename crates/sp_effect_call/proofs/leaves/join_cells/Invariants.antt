use Rattle.std.proofs.Common.{◌≡◌, ℕ, true, take}
use Rattle.std.specs.Prelude.{option_map}
use Rattle.sp_types.specs.View.{type_of}
use Rattle.sp_lattice.specs.System.{has}
use Rattle.sp_value.specs.Slots.{slot_join}
use Rattle.sp_effect_rows.specs.Rows.{joins}
use Rattle.sp_effect_rows.specs.Updates.{store_of}
use Rattle.sp_effect_scene.specs.View.{analysed_of}
use Rattle.sp_effect_call.specs.Slots.{cell_slot}
use Rattle.sp_effect_call.proofs.leaves.join_cells.Given as goal

-- what the first cells get is joined
abbrev pub invariant-loop-cell : goal.invariant-loop-cell
invariant-loop-cell g l = (k : ℕ) → has k l.places ≡ true → store_of l.places l.row k
    ≡ slot_join (store_of l.places l.fn.row k) (joins (cell_slot (analysed_of l.analysis) (option_map (λ t. type_of t.now) l.of) (g.G.Gives.slots l.gives) l.region k) (take l.cell-index l.cells))
