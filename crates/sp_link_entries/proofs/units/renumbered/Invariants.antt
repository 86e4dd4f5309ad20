use Rattle.std.proofs.Common.{◌≡◌, take}
use Rattle.sp_link_entries.specs.Entries.{renumbered}
use Rattle.sp_link_entries.proofs.units.renumbered.Given as goal

abbrev pub invariant-loop-number : goal.invariant-loop-number
invariant-loop-number l = l.all.items ≡ renumbered l.to (take l.number-index l.numbers)
