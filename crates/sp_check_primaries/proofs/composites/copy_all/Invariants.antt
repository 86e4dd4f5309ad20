use Rattle.std.proofs.Common.{◌≡◌, map, take}
use Rattle.sp_types.specs.View.{type_of}
use Rattle.sp_check_primaries.proofs.composites.copy_all.Given as goal

abbrev pub invariant-types : goal.invariant-types
invariant-types l = map type_of l.all.items ≡ map type_of (take l.i l.types)
