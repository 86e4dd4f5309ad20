use Rattle.std.proofs.Common.{◌≡◌, map, take}
use Rattle.sp_types.specs.View.{struct_of}
use Rattle.sp_lower.proofs.building.copy_structs.Given as goal

abbrev pub invariant-loop-found : goal.invariant-loop-found
invariant-loop-found l =
    map struct_of l.copies.items ≡ map struct_of (take l.found-index l.structs)
