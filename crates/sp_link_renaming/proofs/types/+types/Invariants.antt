use Rattle.std.proofs.Common.{◌≡◌, map, take}
use Rattle.sp_types.specs.View.{type_of}
use Rattle.sp_link_renaming.specs.Renaming.{renamed_type}
use Rattle.sp_link_renaming.proofs.types.+types.Given as goal

abbrev pub invariant-all_anew-these : goal.invariant-all_anew-these
invariant-all_anew-these l = map type_of l.all.items ≡ map (renamed_type l.structs) (map type_of (take l.i l.these))
