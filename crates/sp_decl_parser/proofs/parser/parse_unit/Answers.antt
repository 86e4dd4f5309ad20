use Rattle.sp_parse_trees.specs.View.{externals_of}
use Rattle.sp_decl_parser.proofs.ParserSteps as steps
use Rattle.sp_decl_parser.proofs.parser.parse_unit.Goals as goal

pub returns-in-Ok : goal.returns-in-Ok
returns-in-Ok c = steps.unit_is c.units_are_parsed.ensures 200 c.in-Ok.part.depth c.args.tokens.now (externals_of c.in-Ok.part.tree.items) c.in-Ok.ensures
