use Rattle.std.proofs.Common.{◌≡◌, Some, refl, sym, ap, ◌∙◌}
use Rattle.std.proofs.lemmas.Result.{err_from_is_err_and}
use Rattle.sp_lexer.specs.Scan.{over_spelling, along}
use Rattle.sp_lexer.proofs.PieceLaws.{stands}
use Rattle.sp_lexer.proofs.NamedLaws.{lexeme_adds}
use Rattle.sp_lexer.proofs.pieces.pass_spelling.Goals as goal

pub returns-in_err-kind-clause-fault : goal.returns-in_err-kind-clause-fault
returns-in_err-kind-clause-fault c =
    let p = err_from_is_err_and c.from_residual.result c.from_residual.ensures.1 in
    rw (p.1, p.2) (stands c.args.text.now c.args.spot _ c.requires.piece c.in_err-kind.ensures.fault)

pub returns-clause-step : goal.returns-clause-step
returns-clause-step c =
    let t = c.in_ok-kind.ensures.token in
    let next_is : c.split_at.result.1.now ≡ t.next = c.split_at.ensures.back ∙ sym t.rest in
    rw next_is (over_spelling t.front t.lexeme c.in_ok-kind.kind c.requires.piece t.spelled t.reading t.kind_is refl (c.along.ensures ∙ ap (along c.args.spot) (sym t.size)))

pub returns-clause-named : goal.returns-clause-named
returns-clause-named c =
    let t = c.in_ok-kind.ensures.token in
    let next_is : c.split_at.result.1.now ≡ t.next = c.split_at.ensures.back ∙ sym t.rest in
    rw next_is
    (record {
      token = Some (record { kind = c.in_ok-kind.kind; place = c.args.spot.place });
      step = over_spelling t.front t.lexeme c.in_ok-kind.kind c.requires.piece t.spelled t.reading t.kind_is refl (c.along.ensures ∙ ap (along c.args.spot) (sym t.size));
      names_are = lexeme_adds _ _ t.lexeme c.in_ok-kind.kind t.kind_is c.in_ok-kind.ensures.named;
    })
