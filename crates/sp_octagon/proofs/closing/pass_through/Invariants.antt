use Rattle.sp_octagon.specs.Entries.{entries_of}
use Rattle.sp_octagon.proofs.Passing.{RoundSoFar}
use Rattle.sp_octagon.proofs.closing.pass_through.Given as goal

abbrev pub invariant-rows : goal.invariant-rows
invariant-rows l = RoundSoFar l.count l.middle l.row (entries_of l.fn.cells) (entries_of l.cells)
