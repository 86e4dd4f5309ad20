use Rattle.std.proofs.Common.{sym, ◌∙◌}
use Rattle.sp_parse_tokens.specs.Scopes.{there}
use Rattle.sp_parse_statements.proofs.StatementSteps as steps
use Rattle.sp_parse_statements.proofs.heads.too_deep.Goals as goal

pub returns-then-takes_first : goal.returns-then-takes_first
returns-then-takes_first c =
    let g = there c.args.context.types.now c.args.context.scope in
    (steps.head_passed g c.args.depth c.args.tokens.now c.args.head c.requires.ended c.requires.head (sym c.takes_first.ensures ∙ c.if-takes_first.true) c.requires.shallow, c.requires.ended)

pub returns : goal.returns
returns c = steps.shallow_stop c.args.context.types.now c.args.context.scope c.args.depth c.args.tokens.now c.args.head c.requires.ended c.requires.head (sym c.takes_first.ensures ∙ c.if-takes_first.false) c.requires.shallow c.in-Err.stop c.in-Err.ensures
