use Rattle.std.proofs.Common.{refl}
use Rattle.sp_parse_statements.proofs.HeadLaws.{ended_behind_head}
use Rattle.sp_parse_statements.specs.declared.heads.Head.TheVariants as heads
use Rattle.sp_parse_statements.specs.declared.heads.SimpleKind.TheVariants as kinds
use Rattle.std.proofs.lemmas.Result.{err_from_is_err_and}
use Rattle.sp_parse_statements.proofs.SimpleSteps as steps
use Rattle.sp_parse_trees.specs.View.{statement_of}
use Rattle.sp_parse_statements.proofs.simple.read_jump.Goals as goal

pub returns-in_err-rest : goal.returns-in_err-rest
returns-in_err-rest c =
    let p = err_from_is_err_and c.from_residual.result c.from_residual.ensures.1 in
    rw (p.1, p.2) (steps.jump_stop c.args.context.types.now c.args.context.scope c.args.depth c.args.tokens.now c.next_token.result.1.now c.next_token.result.0 c.next_token.ensures c.requires.head (ended_behind_head c.args.context.types.now c.args.tokens.now c.next_token.result.1.now c.next_token.result.0 (heads.Simple kinds.Jump) c.next_token.ensures c.requires.ended c.requires.head refl) c.in_err-rest.field-0.0 c.in_err-rest.ensures)

pub returns : goal.returns
returns c =
    steps.jump_read c.args.context.types.now c.args.context.scope c.args.depth c.args.tokens.now c.next_token.result.1.now c.next_token.result.0 c.next_token.ensures c.requires.head c.requires.room c.in_ok-rest.rest.now c.first_place-end.result c.first_place-end.ensures c.in_ok-rest.ensures (statement_of c.jump.result) c.jump.ensures
