use Rattle.std.proofs.Common.{arith}
use Rattle.std.proofs.lemmas.Result.{err_from_is_err_and, MatchResult-at_ok, MatchResult-at_err}
use Rattle.sp_parse_grammar.specs.CTable as grammar
use Rattle.sp_parse_grammar.specs.Table.{done}
use Rattle.sp_parse_tokens.specs.Scopes.{there}
use Rattle.sp_parse_expr_steps.proofs.Steps.{got}
use Rattle.sp_parse_expr_steps.proofs.Parts.{stop_part}
use Rattle.sp_parse_expr_steps.proofs.DeclaratorSteps.{parameter_on, given_made, given_settled, given_read}
use Rattle.sp_parse_trees.specs.Syntax.{param}
use Rattle.sp_parse_trees.specs.declared.tree.DeclaratorForm.TheFolds.{fold-roll-Param}
use Rattle.sp_parse_tokens.specs.Makers.{all_specifiers}
use Rattle.sp_parse_expr_ends.proofs.declarators.parameter_named.Goals as goal

pub returns-in_err-part : goal.returns-in_err-part
returns-in_err-part c =
    let p = err_from_is_err_and c.from_residual.result c.from_residual.ensures.1 in
    let types = c.args.context.types.now in
    let g = there types c.args.context.scope in
    let ss = c.args.specifiers in
    let h = c.requires.specified in
    rw (p.1, p.2) (stop_part g g g grammar.parameter grammar.parameter (grammar.declarator grammar.either) (λ a. a) (λ d. done (given_made h.all d)) c.args.depth c.args.depth c.args.tokens.now ss.rest.now (got (parameter_on g c.args.tokens.now c.requires.ended) h.read.reads) (omega arith) c.in_err-part.field-0.0 (MatchResult-at_err _ _ _ c.in_err-part.ensures c.requires.read))

pub returns : goal.returns
returns c =
    let types = c.args.context.types.now in
    let g = there types c.args.context.scope in
    let ss = c.args.specifiers in
    let h = c.requires.specified in
    let w = MatchResult-at_ok _ _ _ c.in_ok-part.ensures.0 c.requires.read in
    let d = c.in_ok-part.part.tree in
    record {
      pending = param (all_specifiers h.all) w.pending;
      settled = rw (fold-roll-Param, c.in_ok-part.ensures.1) (given_settled g c.args.depth ss.depth c.in_ok-part.part.depth c.max.result c.args.tokens.now ss.rest.now c.in_ok-part.part.rest.now ss.tree d c.requires.ended h w);
      read = given_read g c.args.depth ss.depth c.in_ok-part.part.depth c.max.result c.args.tokens.now ss.rest.now c.in_ok-part.part.rest.now ss.tree d c.requires.ended h w c.max.ensures;
    }
