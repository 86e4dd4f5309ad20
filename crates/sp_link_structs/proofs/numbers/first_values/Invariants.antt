use Rattle.std.proofs.Common.{◌≡◌, ℕ, drop}
use Rattle.std.specs.Map.{lookup}
use Rattle.indexmap.specs.IndexMap.{get}
use Rattle.sp_link_agreement.specs.Inner.{same_entity}
use Rattle.sp_link_structs.proofs.Lookups.{or_else}
use Rattle.sp_link_structs.proofs.numbers.first_values.Given as goal

abbrev pub invariant-taken : goal.invariant-taken
invariant-taken l = (x : ℕ × ℕ) → or_else (get same_entity l.found x) (lookup (same_entity x) (drop l.i l.taken)) ≡ lookup (same_entity x) l.taken
