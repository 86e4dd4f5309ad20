use Rattle.sp_expr_parser.proofs.ParserSteps.{ended_from}
use Rattle.sp_expr_parser.proofs.parts.tokens_from.Goals as goal

pub returns-clause-ended : goal.returns-clause-ended
returns-clause-ended c = ended_from c.args.tokens.now c.args.at c.requires.ended c.requires.within
