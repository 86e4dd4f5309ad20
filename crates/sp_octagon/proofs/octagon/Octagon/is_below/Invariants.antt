use Rattle.std.proofs.Common.{◌≡◌, true}
use Rattle.std.specs.Prelude.{int_le}
use Rattle.sp_octagon.specs.Order.{all_below}
use Rattle.sp_octagon.specs.Octagons.{rows, entries}
use Rattle.sp_octagon.proofs.octagon.Octagon.is_below.Given as goal

abbrev pub invariant-rows : goal.invariant-rows
invariant-rows l = all_below l.row (λ r. all_below (rows l.self) (λ k. int_le (entries l.self r k) (entries l.other r k))) ≡ true
