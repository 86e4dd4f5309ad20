use Rattle.std.proofs.lemmas.Result.{err_from_is_err_and}
use Rattle.sp_parse_statements.proofs.SimpleSteps as steps
use Rattle.std.specs.Prelude.{option_map}
use Rattle.sp_parse_trees.specs.View.{statement_of, tree_of}
use Rattle.sp_parse_statements.proofs.simple.read_return.Goals as goal

pub returns-in_err-value : goal.returns-in_err-value
returns-in_err-value c =
    let p = err_from_is_err_and c.from_residual.result c.from_residual.ensures.1 in
    rw (p.1, p.2) (steps.return_stop c.args.context.types.now c.args.context.scope c.args.depth c.args.tokens.now c.next_token.result.1.now c.next_token.result.0 c.next_token.ensures c.requires.head c.requires.room c.in_err-value.field-0.0 c.in_err-value.ensures)

pub returns : goal.returns
returns c =
    let v = c.in_ok-value.value in
    steps.return_read c.args.context.types.now c.args.context.scope c.args.depth c.args.tokens.now c.next_token.result.1.now c.next_token.result.0 c.next_token.ensures c.requires.head c.requires.room v.depth (option_map tree_of v.tree.value) v.rest.now v.tree.end c.in_ok-value.ensures (statement_of c.return_of.result) c.return_of.ensures
