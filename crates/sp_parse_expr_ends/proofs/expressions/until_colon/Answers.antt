use Rattle.std.proofs.Common.{◌≡◌, ◌∷◌, ◌-◌, length, refl, sym, ap, ◌∙◌, subst, arith}
use Rattle.std.proofs.lemmas.Result.{err_from_is_err_and, MatchResult-at_ok, MatchResult-at_err}
use Rattle.sp_parse_grammar.specs.CTokens as sorts_there
use Rattle.sp_parse_grammar.specs.CTable as grammar
use Rattle.sp_parse_grammar.specs.CTable.{get}
use Rattle.sp_parse_tokens.specs.Sorts.{terminal, c_tokens}
use Rattle.sp_parse_tokens.specs.declared.scope.AlsoAllowed.TheVariants as also
use Rattle.sp_parse_tokens.specs.Scopes.{there}
use Rattle.sp_parse_expr_steps.specs.Reading.{IsRead, operand_seen}
use Rattle.sp_parse_expr_steps.proofs.Steps.{begun, got}
use Rattle.sp_parse_expr_steps.proofs.Parts.{stop_part, stop_mark}
use Rattle.sp_parse_expr_steps.proofs.Operators.{after_on, choice_body, choice_plan, choice_colon, choice_done}
use Rattle.sp_parse_expr_ends.proofs.expressions.until_colon.Goals as goal

pub returns-in_err-first : goal.returns-in_err-first
returns-in_err-first c =
    let p = err_from_is_err_and c.from_residual.result c.from_residual.ensures.1 in
    let types = c.args.context.types.now in
    let g = there types c.args.context.scope in
    let l = operand_seen c.args.left in
    let x = c.args.operator in
    let xs = c.args.tokens.now in
    let on = after_on g 11 l l (x ∷ xs) (x ∷ xs) xs x (begun (grammar.at g (grammar.after 11 l)) (c_tokens (x ∷ xs))) refl (choice_body g l (terminal x)) c.requires.operator (choice_plan g l x c.requires.operator) in
    rw (p.1, p.2) (stop_part g g g (grammar.after 11 l) (grammar.after 11 l) (grammar.level 13) (λ o. o) (choice_colon g l (terminal x)) c.args.depth (c.args.depth - 1) (x ∷ xs) xs on (omega arith) c.in_err-first.field-0.0 (MatchResult-at_err _ _ _ c.in_err-first.ensures c.requires.read))

pub returns-in_err-rest : goal.returns-in_err-rest
returns-in_err-rest c =
    let p = err_from_is_err_and c.from_residual-in_err-rest.result c.from_residual-in_err-rest.ensures.1 in
    let types = c.args.context.types.now in
    let g = there types c.args.context.scope in
    let l = operand_seen c.args.left in
    let x = c.args.operator in
    let xs = c.args.tokens.now in
    let on = after_on g 11 l l (x ∷ xs) (x ∷ xs) xs x (begun (grammar.at g (grammar.after 11 l)) (c_tokens (x ∷ xs))) refl (choice_body g l (terminal x)) c.requires.operator (choice_plan g l x c.requires.operator) in
    let h = MatchResult-at_ok _ _ _ c.in_ok-first.ensures.0 c.requires.read in
    let a = operand_seen c.in_ok-first.first.tree in
    rw (p.1, p.2) (stop_mark types c.args.context.scope g (grammar.after 11 l) (grammar.after 11 l) (λ o. o) sorts_there.colon also.Nothing (λ z. get g (grammar.level 11) (choice_done g l (terminal x) a)) g c.args.depth (x ∷ xs) c.in_ok-first.first.rest.now (got on h.reads) h.ended c.in_err-rest.field-0.0 (MatchResult-at_err _ _ _ c.in_err-rest.ensures c.expect-next.ensures))

pub returns : goal.returns
returns c =
    let types = c.args.context.types.now in
    let g = there types c.args.context.scope in
    let first = c.in_ok-first.first in
    let h = MatchResult-at_ok _ _ _ c.in_ok-first.ensures.0 c.requires.read in
    let kept = c.in_ok-rest.ensures.1 in
    let closes = MatchResult-at_ok _ _ _ c.in_ok-rest.ensures.0 c.expect-next.ensures in
    let less : length first.rest.now ≡ length (closes.first ∷ c.in_ok-rest.rest.now) = ap length closes.whole in (
      record {
        mid = first.rest.now;
        read = subst (λ v. IsRead g (grammar.level 13) (c.args.depth - 1) c.args.tokens.now (operand_seen v) first.depth first.rest.now) (sym (ap (λ v. v.0) kept)) h;
        closes = closes;
        ended = closes.ended;
        fewer = omega (arith, h.fewer, less);
      },
      ap (λ v. v.1) kept ∙ c.in_ok-first.ensures.1,
    )
