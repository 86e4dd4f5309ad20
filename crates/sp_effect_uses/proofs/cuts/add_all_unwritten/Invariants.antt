use Rattle.std.proofs.Common.{take, not, ◌&&◌, nat_eq}
use Rattle.std.specs.List.{list_any}
use Rattle.sp_lattice.specs.System.{has}
use Rattle.sp_effect_uses.specs.Parts.{Adds}
use Rattle.sp_effect_uses.proofs.cuts.add_all_unwritten.Given as goal

abbrev pub invariant-loop-location : goal.invariant-loop-location
invariant-loop-location l = Adds (λ r. list_any (λ x. not (has x l.written) && nat_eq r x) (take l.location-index l.locations)) l.fn.places l.places
