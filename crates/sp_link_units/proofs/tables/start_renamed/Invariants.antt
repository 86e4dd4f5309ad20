use Rattle.std.proofs.Common.{◌≡◌, map, take}
use Rattle.sp_types.specs.TypedView.{typed_of}
use Rattle.sp_link_renaming.specs.View.{renaming_of}
use Rattle.sp_link_units.specs.Making.{start_renamed}
use Rattle.sp_link_units.proofs.tables.start_renamed.Given as goal

abbrev pub invariant-loop-value : goal.invariant-loop-value
invariant-loop-value l =
    map (λ s. (s.0, typed_of s.1)) l.all.items
    ≡ start_renamed (renaming_of l.to) (map (λ s. (s.0, typed_of s.1)) (take l.value-index l.start))
