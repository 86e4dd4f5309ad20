use Rattle.sp_octagon.specs.Entries.{entries_of}
use Rattle.sp_octagon.proofs.Passing.{RowsSoFar}
use Rattle.sp_octagon.proofs.passes.change_entries.Given as goal

abbrev pub invariant-rows : goal.invariant-rows
invariant-rows g l = RowsSoFar (g.C.Change.made l.change) l.count l.row (entries_of l.fn.cells) (entries_of l.cells)
