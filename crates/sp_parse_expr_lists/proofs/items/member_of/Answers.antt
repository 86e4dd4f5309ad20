use Rattle.sp_parse_tokens.specs.Scopes.{there}
use Rattle.sp_parse_expr_lists.proofs.ItemLists.{none_listed}
use Rattle.sp_parse_expr_lists.proofs.items.member_of.Goals as goal

pub returns : goal.returns
returns c = none_listed (there c.args.context.types.now c.args.context.scope) c.args.depth c.args.tokens.now c.args.specifiers.tree c.args.specifiers.depth c.args.specifiers.rest.now c.new-all.result.items _ c.new-all.ensures.items c.requires.ended c.requires.specified
