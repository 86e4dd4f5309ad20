use Rattle.std.proofs.Common.{◌≡◌, ◌&&◌, drop}
use Rattle.indexmap.specs.IndexMap.{get}
use Rattle.sp_link_agreement.specs.Depths.{tables}
use Rattle.sp_link_structs.specs.Groups.{Key, same_key}
use Rattle.sp_link_structs.specs.Matched.{first_where}
use Rattle.sp_link_structs.specs.Turns.{has_head, is_apart}
use Rattle.sp_link_structs.proofs.Lookups.{or_else}
use Rattle.sp_link_structs.proofs.heads.seconds.Given as goal

abbrev pub invariant-turn : goal.invariant-turn
invariant-turn l = (k : Key) →
    or_else (get same_key l.found k) (first_where (λ y. has_head (tables l.units) k y && is_apart (get same_key l.firsts k) y) (drop l.i l.turn))
    ≡ first_where (λ y. has_head (tables l.units) k y && is_apart (get same_key l.firsts k) y) l.turn
