use Rattle.sp_lexer.proofs.NamedLaws.{none_added}
use Rattle.sp_lexer.proofs.spellings.token_at.Goals as goal

pub returns-then-begins_with_run-clause-named : goal.returns-then-begins_with_run-clause-named
returns-then-begins_with_run-clause-named c = none_added c.args.names.now c.number_token.result c.number_token.ensures.named

pub returns-in_default-clause-named : goal.returns-in_default-clause-named
returns-in_default-clause-named c = none_added c.args.names.now c.mark_token.result c.mark_token.ensures.named
