use Rattle.std.proofs.Common.{ap, ◌∙◌}
use Rattle.std.proofs.lemmas.Result.{err_from_is_err_and, MatchResult-at_ok, MatchResult-at_err}
use Rattle.sp_parse_trees.specs.Syntax.{statement, of}
use Rattle.sp_parse_trees.specs.Places.{place_of}
use Rattle.sp_parse_trees.specs.View.{statement_of, tree_of}
use Rattle.sp_parse_expr_steps.specs.Reading.{operand_seen}
use Rattle.sp_parse_statements.proofs.SimpleSteps as steps
use Rattle.sp_parse_statements.proofs.simple.read_expression.Goals as goal

pub returns-in_err-value : goal.returns-in_err-value
returns-in_err-value c =
    let p = err_from_is_err_and c.from_residual.result c.from_residual.ensures.1 in
    rw (p.1, p.2) (steps.expression_stopped c.args.context.types.now c.args.context.scope c.args.depth c.args.tokens.now c.requires.ended c.requires.head c.requires.room c.in_err-value.field-0.0 c.in_err-value.ensures)

pub returns-in_err-rest : goal.returns-in_err-rest
returns-in_err-rest c =
    let p = err_from_is_err_and c.from_residual-in_err-rest.result c.from_residual-in_err-rest.ensures.1 in
    let v = c.in_ok-value.value in
    rw (p.1, p.2) (steps.expression_unclosed c.args.context.types.now c.args.context.scope c.args.depth c.args.tokens.now c.requires.ended c.requires.head v.depth (operand_seen v.tree) v.rest.now c.in_ok-value.ensures c.in_err-rest.field-0.0 (MatchResult-at_err _ _ _ c.in_err-rest.ensures c.expect-next.ensures))

pub returns : goal.returns
returns c =
    let v = c.in_ok-value.value in
    steps.expression_whole c.args.context.types.now c.args.context.scope c.args.depth c.args.tokens.now c.requires.ended c.requires.head v.depth (operand_seen v.tree) v.rest.now c.in_ok-value.ensures c.requires.room c.in_ok-rest.rest.now c.first_place-end.result c.first_place-end.ensures (MatchResult-at_ok _ _ _ c.in_ok-rest.ensures.0 c.expect-next.ensures) (statement_of c.expression.result) (c.expression.ensures ∙ ap (λ t. statement (of (tree_of t)) (place_of (tree_of t)) c.first_place-end.result) c.in_ok-rest.ensures.1)
