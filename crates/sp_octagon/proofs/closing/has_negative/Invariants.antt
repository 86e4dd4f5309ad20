use Rattle.std.proofs.Common.{◌<◌, ℕ, pos, ◌≤ℤ◌}
use Rattle.sp_octagon.specs.Entries.{entries_of}
use Rattle.sp_octagon.proofs.closing.has_negative.Given as goal

abbrev pub invariant-rows : goal.invariant-rows
invariant-rows l = (r : ℕ) → r < l.row → pos 0 ≤ℤ entries_of l.cells r r
