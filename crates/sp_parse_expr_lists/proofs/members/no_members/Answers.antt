use Rattle.sp_parse_tokens.specs.Scopes.{there}
use Rattle.sp_parse_expr_steps.proofs.StructureSteps.{inner}
use Rattle.sp_parse_expr_lists.proofs.MemberLists.{none_listed}
use Rattle.sp_parse_expr_lists.proofs.members.no_members.Goals as goal

pub returns : goal.returns
returns c = none_listed (there c.args.context.types.now c.args.context.scope) (inner c.args.context.scope) c.args.depth c.args.inside.now c.new.result.items c.new.ensures.items c.requires
