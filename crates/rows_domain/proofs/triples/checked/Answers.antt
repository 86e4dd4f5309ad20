use Rattle.std.proofs.Common.{◌≡◌, ◌∙◌, length, All, refl, sym, ap, subst, arith}
use Rattle.std.proofs.lemmas.List.{length_push}
use Rattle.std.proofs.lemmas.List.Elements.{All-push}
use Rattle.sp_engine_keeping.specs.Triples.{Ascends, AreWithin}
use Rattle.rows_domain.proofs.triples.checked.Goals as goal

pub loop-list-preserved : goal.loop-list-preserved
loop-list-preserved c =
    let rows = c.loop-list.rows in
    let row = c.deref-in-loop-list.result.now in
    let so_far = c.loop-list.invariant in
    let pushed = c.in_ok-push_row.ensures.pushed in
    let ascending : Ascends row = subst Ascends (c.deref.ensures.value ∙ sym c.deref-in-loop-list.ensures.value) (c.if-not-ascends.ensures refl) in
    let within : AreWithin c.args.locations c.in-Ok.nodes row =
    subst (AreWithin c.args.locations c.in-Ok.nodes) (c.deref-else-not-ascends.ensures.value ∙ sym c.deref-in-loop-list.ensures.value) (c.if-not-are_within.ensures refl) in (
      omega (arith, ap length pushed, length_push rows row, so_far.0),
      subst (All Ascends) (sym pushed) (All-push Ascends rows row so_far.1 ascending),
      subst (All (AreWithin c.args.locations c.in-Ok.nodes)) (sym pushed) (All-push (AreWithin c.args.locations c.in-Ok.nodes) rows row so_far.2 within),
    )
