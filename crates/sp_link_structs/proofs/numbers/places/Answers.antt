use Rattle.std.proofs.Common.{◌≡◌, ◌+◌, ◌<◌, ◌∷◌, length, drop, get_or, sym, ap, cond, Some, ◌∙◌, arith}
use Rattle.std.specs.List.{position_from}
use Rattle.indexmap.specs.IndexMap.{get}
use Rattle.sp_link_agreement.specs.Inner.{same_entity}
use Rattle.sp_link_structs.proofs.Firsts.{drop_is}
use Rattle.sp_link_structs.proofs.Lookups.{or_else, places_kept, places_new}
use Rattle.sp_link_structs.proofs.numbers.places.Goals as goal
use Rattle.sp_link_structs.proofs.numbers.places.Goals.{then-not-contains_key+in_ok-insert, else-not-contains_key}

pub list-preserved : goal.list-preserved
list-preserved c =
    let inside : c.list.i < length c.args.list.now = omega arith in
    let x = get_or c.args.list.now c.list.i (0, 0) in
    let at : drop c.list.i c.args.list.now ≡ x ∷ drop (c.list.i + 1) c.args.list.now = drop_is c.args.list.now c.list.i (0, 0) inside in
    elim c.if-not-contains_key.branch [
      | then-not-contains_key+in_ok-insert w ↦
          places_new c.args.list.now c.list.i x at (get same_entity c.list.found) c.list.invariant (get same_entity c.if-not-contains_key.found)
          (sym c.contains_key.ensures ∙ w.if-not-contains_key.true)
          (λ z. ap (λ m. get same_entity m z) w.found-is ∙ w.in_ok-insert.ensures.updates.0 z
          ∙ ap (λ n. cond (same_entity x z) (Some n) (get same_entity c.list.found z)) c.in_ok-place.ensures)
      | else-not-contains_key w ↦ λ y.
          ap (λ m. or_else (get same_entity m y) (position_from (same_entity y) (c.list.i + 1) (drop (c.list.i + 1) c.args.list.now))) w.found-is
          ∙ places_kept c.args.list.now c.list.i x at (get same_entity c.list.found) c.list.invariant (sym c.contains_key.ensures ∙ w.if-not-contains_key.false) y
    ]
