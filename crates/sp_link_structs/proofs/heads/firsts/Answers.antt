use Rattle.std.proofs.Common.{◌≡◌, ◌+◌, ◌<◌, ◌∷◌, length, drop, get_or, is_some, inl, sym, ap, subst, cond, Some, true, false, ◌∙◌, arith}
use Rattle.indexmap.specs.IndexMap.{get}
use Rattle.sp_link_agreement.specs.Depths.{tables, struct_at}
use Rattle.sp_link_structs.specs.Groups.{same_key, head_key}
use Rattle.sp_link_structs.specs.Matched.{first_where}
use Rattle.sp_link_structs.specs.Turns.{has_head}
use Rattle.sp_link_structs.proofs.Firsts.{drop_is}
use Rattle.sp_link_structs.proofs.Keys.{key_self}
use Rattle.sp_link_structs.proofs.Lookups.{or_else}
use Rattle.sp_link_structs.proofs.Namesakes.{firsts_kept, firsts_new}
use Rattle.sp_link_structs.proofs.heads.firsts.Goals as goal
use Rattle.sp_link_structs.proofs.heads.firsts.Goals.{then-not-contains_key+in_ok-insert, else-not-contains_key}

pub turn-preserved : goal.turn-preserved
turn-preserved c =
    let inside : c.turn.i < length c.args.turn.now = omega arith in
    let us = tables c.args.units.now in
    let x = get_or c.args.turn.now c.turn.i (0, 0) in
    let at : drop c.turn.i c.args.turn.now ≡ x ∷ drop (c.turn.i + 1) c.args.turn.now = drop_is c.args.turn.now c.turn.i (0, 0) inside in
    let key = head_key (struct_at us x) in
    let same : c.head_key-key.result ≡ key = c.head_key-key.ensures in
    elim c.if-not-contains_key.branch [
      | then-not-contains_key+in_ok-insert w ↦
          firsts_new c.args.turn.now c.turn.i x at key (has_head us) (λ k e. e) (get same_key c.turn.found) c.turn.invariant (get same_key c.if-not-contains_key.found)
          (subst (λ j. is_some (get same_key c.turn.found j) ≡ false) same (sym c.contains_key.ensures ∙ w.if-not-contains_key.true))
          (key_self key)
          (λ k. ap (λ m. get same_key m k) w.found-is ∙ w.in_ok-insert.ensures.updates.0 k
          ∙ ap (λ j. cond (same_key j k) (Some x) (get same_key c.turn.found k)) same)
      | else-not-contains_key w ↦ λ k.
          ap (λ m. or_else (get same_key m k) (first_where (has_head us k) (drop (c.turn.i + 1) c.args.turn.now))) w.found-is
          ∙ firsts_kept c.args.turn.now c.turn.i x at key (has_head us) (λ k e. e) (get same_key c.turn.found) c.turn.invariant
          (inl (subst (λ j. is_some (get same_key c.turn.found j) ≡ true) same (sym c.contains_key.ensures ∙ w.if-not-contains_key.false))) k
    ]
