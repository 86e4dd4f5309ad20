use Rattle.std.proofs.Common.{◌≡◌, true, get_or}
use Rattle.std.specs.Prelude.{int_le}
use Rattle.sp_octagon.specs.Entries.{unbounded}
use Rattle.sp_octagon.specs.Order.{all_below}
use Rattle.sp_octagon.proofs.kept.is_within.Given as goal

abbrev pub invariant-places : goal.invariant-places
invariant-places l = all_below l.place (λ k. int_le (get_or l.bounds k unbounded) (get_or l.others k unbounded)) ≡ true
