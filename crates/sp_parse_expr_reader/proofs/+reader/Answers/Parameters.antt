-- The goals of the readers of lengths, parameters and functions.
use Rattle.std.proofs.Common.{sym, ap, ◌∙◌, arith}
use Rattle.sp_parse_grammar.specs.CTokens.{is_mark, view}
use Rattle.sp_parse_grammar.specs.CTokens as sorts_there
use Rattle.sp_parse_grammar.specs.CTable.{begins_expression}
use Rattle.sp_parse_tokens.specs.Sorts.{sort_of}
use Rattle.sp_parse_tokens.specs.Scopes.{there}
use Rattle.sp_parse_expr_steps.proofs.Marks.{bracket_is}
use Rattle.sp_parse_expr_steps.proofs.DeclaratorSteps.{no_length}
use Rattle.sp_parse_expr_steps.proofs.DeclaratorParts.{array_result, begins_opening}
use Rattle.sp_parse_expr_reader.proofs.+reader.Goals as goal
use Rattle.sp_parse_expr_steps.specs.Reading.{first_sort}

pub declarators::read_length-returns-then-not-begins_expression : goal.declarators::read_length-returns-then-not-begins_expression
declarators::read_length-returns-then-not-begins_expression t c =
    let g = there c.args.context.types.now c.args.context.scope in
    let other = sym (c.begins_expression.ensures ∙ ap (λ s. begins_expression s) c.sort_at.ensures) ∙ c.if-not-begins_expression.true in
    no_length g c.args.tokens.now c.next_token.result.1.now c.next_token.result.0 c.next_token.ensures c.args.depth other c.requires

pub declarators::read_part-returns-then-is_mark : goal.declarators::read_part-returns-then-is_mark
declarators::read_part-returns-then-is_mark t c =
    let types = c.args.context.types.now in
    let x = c.args.opening in
    let is = bracket_is (view types (sort_of x.kind)) (sym (c.is_mark.ensures ∙ ap (λ s. is_mark sorts_there.bracket s) c.sort_at.ensures) ∙ c.if-is_mark.true) in
    λ pending settled. array_result types c.args.context.scope c.args.head pending x c.args.tokens.now c.args.depth settled (sym is) (omega (arith, c.requires.shallow)) c.arrayed.result c.arrayed.ensures

pub declarators::read_length-given_length-requires : goal.declarators::read_length-given_length-requires
declarators::read_length-given_length-requires t c =
    let types = c.args.context.types.now in
    record {
      ended = c.requires;
      begun = ap (λ v. begins_expression (first_sort types v)) c.next_token.ensures ∙ sym (c.begins_expression.ensures ∙ ap (λ s. begins_expression s) c.sort_at.ensures) ∙ c.if-not-begins_expression.false;
      read = c.read_level-length.ensures;
    }

pub declarators::read_part-parametered-requires : goal.declarators::read_part-parametered-requires
declarators::read_part-parametered-requires t c =
    let is = begins_opening (view c.args.context.types.now (sort_of c.args.opening.kind)) c.requires.opening (sym (c.is_mark.ensures ∙ ap (λ s. is_mark sorts_there.bracket s) c.sort_at.ensures) ∙ c.if-is_mark.false) in
    record {
      opening = ap (λ s. is_mark sorts_there.opening s) is;
      deep = c.requires.deep;
      shallow = c.requires.shallow;
      read = c.read_parameters-parameters.ensures;
    }

pub declarators::read_part-arrayed-requires : goal.declarators::read_part-arrayed-requires
declarators::read_part-arrayed-requires t c =
    record {
      deep = c.requires.deep;
      shallow = c.requires.shallow;
      read = c.read_length-length.ensures;
    }
