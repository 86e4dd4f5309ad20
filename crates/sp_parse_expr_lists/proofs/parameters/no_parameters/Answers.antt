use Rattle.std.proofs.Common.{refl, ap, ◌∙◌, true}
use Rattle.sp_parse_grammar.specs.CTable.{begins_specifiers}
use Rattle.sp_parse_tokens.specs.Scopes.{there}
use Rattle.sp_parse_expr_lists.proofs.ParameterLists.{none_listed}
use Rattle.sp_parse_expr_lists.proofs.parameters.no_parameters.Goals as goal

pub returns : goal.returns
returns c = none_listed (there c.args.context.types.now c.args.context.scope) c.args.depth c.args.tokens.now _ c.new.ensures.items refl refl c.begins_specifiers-more.result c.next_token.result.1.now c.next_token.result.0 c.next_token.ensures (c.begins_specifiers-more.ensures ∙ ap (λ s. begins_specifiers true c.args.context.scope.in_function s) c.sort_at-sort.ensures) c.requires
