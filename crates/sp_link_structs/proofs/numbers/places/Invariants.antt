use Rattle.std.proofs.Common.{◌≡◌, ℕ, drop}
use Rattle.std.specs.List.{position_from}
use Rattle.indexmap.specs.IndexMap.{get}
use Rattle.sp_link_agreement.specs.Inner.{same_entity}
use Rattle.sp_link_structs.proofs.Lookups.{or_else}
use Rattle.sp_link_structs.proofs.numbers.places.Given as goal

abbrev pub invariant-list : goal.invariant-list
invariant-list l = (x : ℕ × ℕ) → or_else (get same_entity l.found x) (position_from (same_entity x) l.i (drop l.i l.list)) ≡ position_from (same_entity x) 0 l.list
