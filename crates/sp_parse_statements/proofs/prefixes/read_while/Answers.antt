use Rattle.std.proofs.lemmas.Result.{err_from_is_err_and}
use Rattle.sp_parse_statements.proofs.PrefixSteps as steps
use Rattle.sp_parse_statements.proofs.prefixes.read_while.Goals as goal

pub returns-in_err-condition : goal.returns-in_err-condition
returns-in_err-condition c =
    let p = err_from_is_err_and c.from_residual.result c.from_residual.ensures.1 in
    rw (p.1, p.2) (steps.while_stop c.args.context.types.now c.args.context.scope c.args.depth c.args.tokens.now c.next_token.result.1.now c.next_token.result.0 c.next_token.ensures c.requires.room c.requires.head c.in_err-condition.field-0.0 c.in_err-condition.ensures)

pub returns : goal.returns
returns c =
    let v = c.in_ok-condition.condition in
    steps.while_read c.args.context.types.now c.args.context.scope c.args.depth c.args.tokens.now c.next_token.result.1.now c.next_token.result.0 c.next_token.ensures c.requires.room c.requires.head v.depth v.tree v.rest.now c.in_ok-condition.ensures
