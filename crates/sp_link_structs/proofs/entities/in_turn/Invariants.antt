use Rattle.std.proofs.Common.{◌≡◌, ◌++◌, not, filter, drop}
use Rattle.sp_link_agreement.specs.Depths.{tables}
use Rattle.sp_link_structs.specs.Joined.{is_complete}
use Rattle.sp_link_structs.proofs.entities.in_turn.Given as goal

abbrev pub invariant-complete : goal.invariant-complete
invariant-complete l =
    l.turn.items ++ filter (is_complete (tables l.units)) (drop l.i l.all)
    ≡ filter (is_complete (tables l.units)) l.all

abbrev pub invariant-others : goal.invariant-others
invariant-others l =
    l.turn.items ++ filter (λ x. not (is_complete (tables l.units) x)) (drop l.i l.all)
    ≡ filter (is_complete (tables l.units)) l.all ++ filter (λ x. not (is_complete (tables l.units) x)) l.all
