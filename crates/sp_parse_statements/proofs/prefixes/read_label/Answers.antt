use Rattle.sp_parse_statements.proofs.PrefixSteps as steps
use Rattle.sp_parse_statements.proofs.prefixes.read_label.Goals as goal

pub returns : goal.returns
returns c =
    steps.label_read c.args.context.types.now c.args.context.scope c.args.depth c.args.tokens.now c.next_token.result.1.now c.next_token.result.0 c.next_token.ensures c.requires.room c.requires.ended c.next_token-2.result.0 c.next_token-2.result.1.now c.next_token-2.ensures c.requires.head c.number_of.result c.number_of.ensures
