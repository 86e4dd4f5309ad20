use Rattle.std.proofs.Common.{ap, ◌∙◌}
use Rattle.sp_parse_grammar.specs.CTable.{begins_expression}
use Rattle.sp_parse_tokens.specs.Scopes.{there}
use Rattle.sp_parse_expr_lists.proofs.ArgumentLists.{none_listed}
use Rattle.sp_parse_expr_lists.proofs.arguments.no_arguments.Goals as goal

pub returns : goal.returns
returns c = none_listed (there c.args.context.types.now c.args.context.scope) c.args.depth c.args.tokens.now c.new.result.items c.new.ensures.items c.begins_expression.result c.next_token.result.1.now c.next_token.result.0 c.next_token.ensures (c.begins_expression.ensures ∙ ap (λ s. begins_expression s) c.sort_at.ensures) c.requires
