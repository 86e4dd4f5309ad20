use Rattle.std.proofs.Common.{refl, sym, ◌∙◌}
use Rattle.sp_expr_parser.proofs.ParserSteps.{declarator_deep, declarator_none, sort_of_head}
use Rattle.sp_parse_tokens.specs.Codes.{sort_seen}
use Rattle.sp_expr_parser.proofs.call.no_declarator.Goals as goal

pub returns-then-begins_declarator : goal.returns-then-begins_declarator
returns-then-begins_declarator c = (declarator_deep c.args.types.now c.args.tokens.now c.requires (sort_seen c.first_sort.result) (sort_of_head c.args.types.now c.args.tokens.now (sort_seen c.first_sort.result) c.first_sort.ensures) (sym c.begins_declarator.ensures ∙ c.if-begins_declarator.true), c.requires)

pub returns-else-begins_declarator : goal.returns-else-begins_declarator
returns-else-begins_declarator c = declarator_none c.args.types.now _ c.args.tokens.now refl c.requires (sort_seen c.first_sort.result) (sort_of_head c.args.types.now c.args.tokens.now (sort_seen c.first_sort.result) c.first_sort.ensures) (sym c.begins_declarator.ensures ∙ c.if-begins_declarator.false) c.fault.result c.fault.ensures
