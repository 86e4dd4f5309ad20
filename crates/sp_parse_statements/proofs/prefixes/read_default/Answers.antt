use Rattle.std.proofs.Common.{refl}
use Rattle.sp_parse_statements.proofs.HeadLaws.{ended_behind_head}
use Rattle.sp_parse_statements.specs.declared.heads.Head.TheVariants as heads
use Rattle.sp_parse_statements.specs.declared.heads.PrefixKind.TheVariants as kinds
use Rattle.std.proofs.lemmas.Result.{err_from_is_err_and}
use Rattle.sp_parse_statements.proofs.PrefixSteps as steps
use Rattle.sp_parse_statements.proofs.prefixes.read_default.Goals as goal

pub returns-in_err-rest : goal.returns-in_err-rest
returns-in_err-rest c =
    let p = err_from_is_err_and c.from_residual.result c.from_residual.ensures.1 in
    rw (p.1, p.2) (steps.default_stop c.args.context.types.now c.args.context.scope c.args.depth c.args.tokens.now c.next_token.result.1.now c.next_token.result.0 c.next_token.ensures c.requires.head (ended_behind_head c.args.context.types.now c.args.tokens.now c.next_token.result.1.now c.next_token.result.0 (heads.Prefix kinds.Default) c.next_token.ensures c.requires.ended c.requires.head refl) c.in_err-rest.field-0.0 c.in_err-rest.ensures)

pub returns : goal.returns
returns c =
    steps.default_read c.args.context.types.now c.args.context.scope c.args.depth c.args.tokens.now c.next_token.result.1.now c.next_token.result.0 c.next_token.ensures c.requires.room c.requires.head c.in_ok-rest.rest.now c.in_ok-rest.ensures
