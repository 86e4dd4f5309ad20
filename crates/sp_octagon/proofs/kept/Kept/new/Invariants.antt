use Rattle.std.proofs.Common.{◌≡◌}
use Rattle.sp_octagon.specs.Kept.{half_to}
use Rattle.sp_octagon.specs.Octagons.{entries}
use Rattle.sp_octagon.proofs.kept.Kept.new.Given as goal

abbrev pub invariant-rows : goal.invariant-rows
invariant-rows l = l.bounds.items ≡ half_to l.row (entries l.octagon)
