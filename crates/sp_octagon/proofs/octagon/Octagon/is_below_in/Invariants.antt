use Rattle.std.proofs.Common.{◌≡◌, true}
use Rattle.std.specs.Prelude.{int_le}
use Rattle.sp_octagon.specs.Order.{all_below}
use Rattle.sp_octagon.specs.Octagons.{entries}
use Rattle.sp_octagon.proofs.octagon.Octagon.is_below_in.Given as goal

abbrev pub invariant-columns : goal.invariant-columns
invariant-columns l = all_below l.column (λ k. int_le (entries l.self l.row k) (entries l.other l.row k)) ≡ true
