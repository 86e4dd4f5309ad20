use Rattle.std.proofs.Common.{◌≡◌, ◌<◌, ℕ, pos, length}
use Rattle.std.specs.Prelude.{slice_index_or}
use Rattle.sp_octagon.specs.Entries.{entries_of, negative}
use Rattle.sp_octagon.proofs.closing.unary_of.Given as goal

abbrev pub invariant-rows : goal.invariant-rows
invariant-rows l = (length l.entries ≡ 16) × ((k : ℕ) → k < l.row → slice_index_or l.entries k (pos 0) ≡ entries_of l.cells k (negative k))
