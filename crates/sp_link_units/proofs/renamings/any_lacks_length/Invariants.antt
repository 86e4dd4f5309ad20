use Rattle.std.proofs.Common.{◌≡◌, map, drop}
use Rattle.std.specs.List.{list_any}
use Rattle.sp_link_entries.specs.Views.{object_entry_of}
use Rattle.sp_link_units.specs.Making.{lacks_length}
use Rattle.sp_link_units.proofs.renamings.any_lacks_length.Given as goal

abbrev pub invariant-loop-object : goal.invariant-loop-object
invariant-loop-object l =
    list_any (λ e. lacks_length e.of) (map object_entry_of (drop l.object-index l.objects))
    ≡ list_any (λ e. lacks_length e.of) (map object_entry_of l.objects)
