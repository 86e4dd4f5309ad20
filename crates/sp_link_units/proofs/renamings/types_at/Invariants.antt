use Rattle.std.proofs.Common.{◌≡◌, map, take}
use Rattle.std.specs.Prelude.{slice_index_or}
use Rattle.sp_types.specs.Types.{void}
use Rattle.sp_types.specs.View.{type_of}
use Rattle.sp_link_units.proofs.renamings.types_at.Given as goal

abbrev pub invariant-loop-number : goal.invariant-loop-number
invariant-loop-number l = map type_of l.all.items ≡ map (λ k. slice_index_or (map type_of l.types) k void) (take l.number-index l.numbers)
