use Rattle.std.proofs.Common.{◌≡◌, map, take}
use Rattle.sp_types.specs.View.{type_of}
use Rattle.sp_link_entries.specs.Views.{object_entry_of}
use Rattle.sp_link_units.specs.Making.{final_types}
use Rattle.sp_link_units.proofs.renamings.final_types.Given as goal

abbrev pub invariant-loop-object : goal.invariant-loop-object
invariant-loop-object l = map type_of l.all.items ≡ final_types (map object_entry_of (take l.object-index l.objects))
