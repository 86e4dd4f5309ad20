use Rattle.std.proofs.Common.{◌≡◌, length}
use Rattle.sp_deps.proofs.earlier.Earlier.none.Given as goal

abbrev pub invariant-loop : goal.invariant-loop
invariant-loop l = length l.place.items ≡ l.counter
