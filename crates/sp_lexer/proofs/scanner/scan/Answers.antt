use Rattle.std.proofs.Common.{sym, ◌∙◌, subst, arith}
use Rattle.sp_lexer.specs.Scan.{Step}
use Rattle.sp_lexer.specs.Steps.{token_of}
use Rattle.sp_lexer.proofs.PieceLaws.{piece_some, piece_none}
use Rattle.sp_lexer.proofs.AnswerLaws.{scanning_from, scanning_past, scanning_onward, still_count, answer_stop, answer_past, answer_end, named_end, grows_none}
use Rattle.sp_lexer.proofs.scanner.scan.Goals as goal

pub pieces-init : goal.pieces-init
pieces-init c = rw (c.new-tokens.ensures.items, c.start-spot.ensures) (scanning_from c.args.names.now c.args.text.now c.args.name c.args.room c.len-held.ensures.distinct (omega (arith, c.requires.held)))

pub pass_piece-requires-clause-some : goal.pass_piece-requires-clause-some
pass_piece-requires-clause-some c = piece_some _ _ _ (sym c.in-Some.ensures)

pub returns-in-Err-clause-answer : goal.returns-in-Err-clause-answer
returns-in-Err-clause-answer c = rw c.error_at.ensures (answer_stop _ _ _ _ _ _ _ _ _ c.pieces.invariant c.in-Err.ensures.names _ c.in-Err.ensures.fault)

pub returns-in-Err-clause-count : goal.returns-in-Err-clause-count
returns-in-Err-clause-count c = still_count _ _ _ _ _ _ _ _ _ c.pieces.invariant c.in-Err.ensures.names (piece_some _ _ _ (sym c.in-Some.ensures))

pub returns-then-len-room-clause-answer : goal.returns-then-len-room-clause-answer
returns-then-len-room-clause-answer c =
    let step = subst (λ k. Step c.pass_piece.new.names c.pieces.rest.now c.pieces.spot (token_of k c.pieces.spot.place) c.in-Ok.passed.1.now c.in-Ok.passed.2) c.in-Some-kind.is c.in-Ok.ensures.step in
    answer_past _ _ _ _ _ _ _ _ _ c.pieces.invariant c.in-Ok.ensures.names _ _ _ step (sym c.pieces.tokens.ok.0 ∙ sym c.len.ensures ∙ c.if-len-room.true)

pub pieces-preserved-in-Ok-push : goal.pieces-preserved-in-Ok-push
pieces-preserved-in-Ok-push c =
    let step = subst (λ k. Step c.pass_piece.new.names c.pieces.rest.now c.pieces.spot (token_of k c.pieces.spot.place) c.in-Ok.passed.1.now c.in-Ok.passed.2) c.in-Some-kind.is c.in-Ok.ensures.step in
    rw c.in-Ok-push.ensures.items (scanning_onward _ _ _ _ _ _ _ _ _ c.pieces.invariant c.in-Ok.ensures.names _ _ _ step c.in-Ok.ensures.named c.in-Ok.ensures.passed (λ e. c.if-len-room.false (c.len.ensures ∙ c.pieces.tokens.ok.0 ∙ e)))

pub pieces-preserved : goal.pieces-preserved
pieces-preserved c =
    let step = subst (λ k. Step c.pass_piece.new.names c.pieces.rest.now c.pieces.spot (token_of k c.pieces.spot.place) c.in-Ok.passed.1.now c.in-Ok.passed.2) c.in_default-kind.is c.in-Ok.ensures.step in
    scanning_past _ _ _ _ _ _ _ _ _ c.pieces.invariant c.in-Ok.ensures.names _ _ step c.in-Ok.ensures.named c.in-Ok.ensures.passed

pub returns-in-Ok-push-2-clause-answer : goal.returns-in-Ok-push-2-clause-answer
returns-in-Ok-push-2-clause-answer c =
    rw c.in-Ok-push-2.ensures.items (answer_end _ _ _ _ _ _ _ _ _ c.pieces.invariant (grows_none _) (piece_none _ _ (sym c.in_default.ensures)))

pub returns-in-Ok-push-2-clause-named : goal.returns-in-Ok-push-2-clause-named
returns-in-Ok-push-2-clause-named c = named_end _ _ _ _ _ _ _ _ c.pieces.invariant (piece_none _ _ (sym c.in_default.ensures))
