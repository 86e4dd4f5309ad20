use Rattle.sp_octagon.specs.Entries.{entries_of}
use Rattle.sp_octagon.specs.inner.Rounds.{Shortened}
use Rattle.sp_octagon.proofs.closing.shorten_row.Given as goal

abbrev pub invariant-columns : goal.invariant-columns
invariant-columns l = Shortened l.count l.row l.middle l.first (entries_of l.fn.cells) l.column (entries_of l.cells)
