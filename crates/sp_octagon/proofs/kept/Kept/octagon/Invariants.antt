use Rattle.std.proofs.Common.{◌≡◌, length}
use Rattle.sp_octagon.specs.Entries.{entries_of}
use Rattle.sp_octagon.specs.Kept.{start}
use Rattle.sp_octagon.specs.inner.Reading.{ReadTo}
use Rattle.sp_octagon.specs.Octagons.{rows, entries}
use Rattle.sp_octagon.proofs.kept.Kept.octagon.Given as goal

abbrev pub invariant-rows : goal.invariant-rows
invariant-rows l = record {
  room : length l.cells ≡ 256;
  first : l.first ≡ start l.row;
  read : ReadTo (rows l.self) (entries l.self) l.row 0 (entries_of l.cells);
}
