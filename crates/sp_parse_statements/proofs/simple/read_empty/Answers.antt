use Rattle.std.proofs.Common.{refl}
use Rattle.sp_parse_statements.proofs.HeadLaws.{ended_behind_head}
use Rattle.sp_parse_statements.specs.declared.heads.Head.TheVariants as heads
use Rattle.sp_parse_statements.specs.declared.heads.SimpleKind.TheVariants as kinds
use Rattle.sp_parse_trees.specs.View.{statement_of}
use Rattle.sp_parse_statements.proofs.SimpleSteps as steps
use Rattle.sp_parse_statements.proofs.simple.read_empty.Goals as goal

pub returns : goal.returns
returns c =
    steps.empty_read c.args.context.types.now c.args.context.scope c.args.depth c.args.tokens.now c.next_token.result.1.now c.next_token.result.0 c.next_token.ensures c.requires.head (ended_behind_head c.args.context.types.now c.args.tokens.now c.next_token.result.1.now c.next_token.result.0 (heads.Simple kinds.Empty) c.next_token.ensures c.requires.ended c.requires.head refl) c.requires.room (statement_of c.empty.result) c.empty.ensures
