use Rattle.std.proofs.Common.{◌≡◌, ◌+◌, ◌<◌, ◌∷◌, ◌&&◌, not, length, drop, get_or, is_some, inl, inr, ⊎_elim, sym, ap, cond, Some, true, false, ◌∙◌, arith}
use Rattle.indexmap.specs.IndexMap.{get}
use Rattle.sp_link_agreement.specs.Depths.{tables, struct_at}
use Rattle.sp_link_structs.specs.Groups.{same_key, head_key}
use Rattle.sp_link_structs.specs.Matched.{first_where}
use Rattle.sp_link_structs.specs.Turns.{has_head, is_apart}
use Rattle.sp_link_structs.proofs.Firsts.{drop_is}
use Rattle.sp_link_structs.proofs.Keys.{key_self, some_false}
use Rattle.sp_link_structs.proofs.Lookups.{or_else}
use Rattle.sp_link_structs.proofs.Namesakes.{firsts_kept, firsts_new, new_parts, old_parts}
use Rattle.sp_link_structs.proofs.heads.seconds.Goals as goal
use Rattle.sp_link_structs.proofs.heads.seconds.Goals.{then-is_new+in_ok-insert, else-is_new}

pub turn-preserved : goal.turn-preserved
turn-preserved c =
    let inside : c.turn.i < length c.args.turn.now = omega arith in
    let us = tables c.args.units.now in
    let x = get_or c.args.turn.now c.turn.i (0, 0) in
    let at : drop c.turn.i c.args.turn.now ≡ x ∷ drop (c.turn.i + 1) c.args.turn.now = drop_is c.args.turn.now c.turn.i (0, 0) inside in
    let key = head_key (struct_at us x) in
    let same : c.head_key-key.result ≡ key = c.head_key-key.ensures in
    let told : c.is_new.result ≡ (is_apart (get same_key c.args.firsts.now key) x && not (is_some (get same_key c.turn.found key))) =
    c.is_new.ensures ∙ ap (λ k. is_apart (get same_key c.args.firsts.now k) x && not (is_some (get same_key c.turn.found k))) same in
    elim c.if-is_new.branch [
      | then-is_new+in_ok-insert w ↦
          let parts : (is_apart (get same_key c.args.firsts.now key) x ≡ true) × (is_some (get same_key c.turn.found key) ≡ false) =
          new_parts (is_apart (get same_key c.args.firsts.now key) x) (is_some (get same_key c.turn.found key)) (sym told ∙ w.if-is_new.true) in
          firsts_new c.args.turn.now c.turn.i x at key (λ k y. has_head us k y && is_apart (get same_key c.args.firsts.now k) y)
          (λ k e. ap (λ b. b && is_apart (get same_key c.args.firsts.now k) x) e)
          (get same_key c.turn.found) c.turn.invariant (get same_key c.if-is_new.found)
          parts.1
          (λ i. key_self key i && parts.0 i)
          (λ k. ap (λ m. get same_key m k) w.found-is ∙ w.in_ok-insert.ensures.updates.0 k
          ∙ ap (λ j. cond (same_key j k) (Some x) (get same_key c.turn.found k)) same)
      | else-is_new w ↦ λ k.
          ap (λ m. or_else (get same_key m k) (first_where (λ y. has_head us k y && is_apart (get same_key c.args.firsts.now k) y) (drop (c.turn.i + 1) c.args.turn.now))) w.found-is
          ∙ firsts_kept c.args.turn.now c.turn.i x at key (λ k y. has_head us k y && is_apart (get same_key c.args.firsts.now k) y)
          (λ k e. ap (λ b. b && is_apart (get same_key c.args.firsts.now k) x) e)
          (get same_key c.turn.found) c.turn.invariant
          (⊎_elim (λ h. inl h) (λ h. inr (ap (λ b. has_head us key x && b) h ∙ some_false (has_head us key x)))
          (old_parts (is_apart (get same_key c.args.firsts.now key) x) (is_some (get same_key c.turn.found key)) (sym told ∙ w.if-is_new.false))) k
    ]
