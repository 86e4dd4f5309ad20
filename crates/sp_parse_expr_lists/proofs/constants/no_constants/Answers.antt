use Rattle.sp_parse_tokens.specs.Scopes.{there}
use Rattle.sp_parse_expr_lists.proofs.ConstantLists.{none_listed}
use Rattle.sp_parse_expr_lists.proofs.constants.no_constants.Goals as goal

pub returns : goal.returns
returns c = none_listed (there c.args.context.types.now c.args.context.scope) c.args.context.scope c.args.depth c.args.inside.now c.new.result.items c.new.ensures.items c.requires
