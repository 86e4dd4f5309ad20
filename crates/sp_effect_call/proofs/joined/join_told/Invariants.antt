use Rattle.std.proofs.Common.{◌≡◌, take}
use Rattle.sp_value.specs.Slots.{known_of}
use Rattle.sp_effect_entry.specs.Joined.{joined}
use Rattle.sp_effect_call.proofs.joined.join_told.Given as goal

-- what the first numbers tell
abbrev pub invariant-loop-number : goal.invariant-loop-number
invariant-loop-number g l = known_of l.sum ≡ joined (g.T.Tells.told l.each) (take l.number-index l.numbers)
