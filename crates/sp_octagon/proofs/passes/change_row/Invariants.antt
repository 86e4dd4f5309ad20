use Rattle.sp_octagon.specs.Entries.{entries_of}
use Rattle.sp_octagon.proofs.Passing.{RowSoFar}
use Rattle.sp_octagon.proofs.passes.change_row.Given as goal

abbrev pub invariant-columns : goal.invariant-columns
invariant-columns g l = RowSoFar (g.C.Change.made l.change) l.row l.column (entries_of l.fn.cells) (entries_of l.cells)
