use Rattle.std.proofs.Common.{◌≡◌, map, take}
use Rattle.sp_check_primaries.specs.Literals.{leaf_seen}
use Rattle.sp_check_objects.proofs.copies.copy_values.Given as goal

abbrev pub invariant-values : goal.invariant-values
invariant-values l = map leaf_seen l.all.items ≡ map leaf_seen (take l.i l.values)
