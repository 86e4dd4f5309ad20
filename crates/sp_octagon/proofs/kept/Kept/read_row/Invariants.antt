use Rattle.sp_octagon.specs.Entries.{entries_of}
use Rattle.sp_octagon.specs.inner.Reading.{ReadTo}
use Rattle.sp_octagon.specs.Octagons.{rows, entries}
use Rattle.sp_octagon.proofs.kept.Kept.read_row.Given as goal

abbrev pub invariant-columns : goal.invariant-columns
invariant-columns l = ReadTo (rows l.self) (entries l.self) l.row l.column (entries_of l.cells)
