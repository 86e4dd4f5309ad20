use Rattle.std.proofs.Common.{◌≡◌, ◌∙◌, ◌+◌, ◌++◌, ◌∷◌, ℕ, List, [], refl, sym, ap, subst}
use Rattle.std.specs.Prelude.{slice_set}
use Rattle.sp_base_sets.specs.Reached.{row}
use Rattle.sp_defuse.proofs.StandFors.{SoFar, by-itself, by-last}
use Rattle.sp_defuse.proofs.stand_ins.stand_ins_of.Goals.{then-are_alike, else-are_alike}
use Rattle.sp_defuse.proofs.stand_ins.stand_ins_of.Goals as goal

pub loop-location-preserved : goal.loop-location-preserved
loop-location-preserved c = elim c.if-are_alike.branch [
  | then-are_alike w ↦
      same (w.last-is) (ap (λ v. v.items) w.owners-is ∙ ap (slice_set left i) w.new.ensures)
      (by-last owners i c.loop-location.last left stand_ins c.loop-location.invariant (w.if-are_alike.ensures.before refl)
      (subst (λ (xs : List (List ℕ)). row xs c.loop-location.last ≡ row xs i) c.deref.ensures.value (w.if-are_alike.ensures.same refl)))
  | else-are_alike w ↦
      same (w.last-is) (ap (λ v. v.items) w.owners-is)
      (by-itself owners i c.loop-location.last left stand_ins c.loop-location.invariant)
]
  where
    owners : List (List ℕ)
    owners = c.args.owners.now.items

    left : List (List ℕ)
    left = c.loop-location.owners.items

    stand_ins : List ℕ
    stand_ins = c.loop-location.stand_ins.items

    i : ℕ
    i = c.loop-location.location

    same : {last : ℕ} {now : List (List ℕ)} → c.if-are_alike.last ≡ last → c.if-are_alike.owners.items ≡ now
        → SoFar owners (i + 1) last now (stand_ins ++ last ∷ []) → SoFar owners (i + 1) c.if-are_alike.last c.if-are_alike.owners.items c.push.new.self.items
    same {last} {now} e f h =
        subst (λ ns. SoFar owners (i + 1) c.if-are_alike.last c.if-are_alike.owners.items ns) (sym c.in_ok-push.ensures.items)
        (subst (λ xs. SoFar owners (i + 1) c.if-are_alike.last xs (stand_ins ++ c.if-are_alike.last ∷ [])) (sym f)
        (subst (λ l. SoFar owners (i + 1) l now (stand_ins ++ l ∷ [])) (sym e) h))
