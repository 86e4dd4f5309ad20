use Rattle.std.proofs.Common.{◌≡◌, [], replicate}
use Rattle.sp_base_sets.proofs.number_set.NumberSet.empty_sets.Given as goal

abbrev pub invariant-loop : goal.invariant-loop
invariant-loop l = l.sets.items ≡ replicate l.counter []
