use Rattle.std.proofs.Common.{ℕ, ◌&&◌, nat_eq, take}
use Rattle.sp_base_sets.specs.Sets.{has}
use Rattle.sp_defuse.specs.Accessed.{AddsTo}
use Rattle.sp_defuse.proofs.accessed.add_to_each.Given as goal

abbrev pub invariant-loop-row : goal.invariant-loop-row
invariant-loop-row l = AddsTo (λ (r n : ℕ). has r (take l.row-index l.rows) && nat_eq n l.number) l.initial.sets.items l.sets.items
