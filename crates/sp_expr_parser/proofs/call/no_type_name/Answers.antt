use Rattle.std.proofs.Common.{refl, sym, ◌∙◌}
use Rattle.sp_expr_parser.proofs.ParserSteps.{type_name_deep, type_name_none, sort_of_head}
use Rattle.sp_parse_tokens.specs.Codes.{sort_seen}
use Rattle.sp_expr_parser.proofs.call.no_type_name.Goals as goal

pub returns-then-begins_specifiers : goal.returns-then-begins_specifiers
returns-then-begins_specifiers c = (type_name_deep c.args.types.now c.args.tokens.now c.requires (sort_seen c.first_sort.result) (sort_of_head c.args.types.now c.args.tokens.now (sort_seen c.first_sort.result) c.first_sort.ensures) (sym c.begins_specifiers.ensures ∙ c.if-begins_specifiers.true), c.requires)

pub returns-else-begins_specifiers : goal.returns-else-begins_specifiers
returns-else-begins_specifiers c = type_name_none c.args.types.now _ c.args.tokens.now refl c.requires (sort_seen c.first_sort.result) (sort_of_head c.args.types.now c.args.tokens.now (sort_seen c.first_sort.result) c.first_sort.ensures) (sym c.begins_specifiers.ensures ∙ c.if-begins_specifiers.false) c.fault.result c.fault.ensures
