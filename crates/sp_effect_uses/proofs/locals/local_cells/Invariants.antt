use Rattle.std.proofs.Common.{◌≡◌, true, take, Some}
use Rattle.sp_lattice.specs.System.{has}
use Rattle.sp_ir.specs.Programs.{lowered_of}
use Rattle.sp_graph.specs.Rows.{Grows}
use Rattle.sp_effect_scene.specs.Analysed.{owner_of}
use Rattle.sp_effect_uses.proofs.locals.local_cells.Given as goal

abbrev pub invariant-loop-cell : goal.invariant-loop-cell
invariant-loop-cell l = Grows (λ f k. (owner_of (lowered_of l.analysis.lowered) k ≡ Some f) × (has k (take l.cell-index l.cells) ≡ true)) l.initial.sets.items l.sets.items
