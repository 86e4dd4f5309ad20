use Rattle.std.proofs.Common.{◌≤◌, refl, subst, arith}
use Rattle.sp_parse_grammar.specs.CTable as grammar
use Rattle.sp_parse_trees.specs.View.{tree_of}
use Rattle.sp_parse_trees.specs.Depth.{depth}
use Rattle.sp_parse_laws.specs.Answers.{expressions, expression_ask}
use Rattle.sp_parse_laws.proofs.Calls.{expression_reader}
use Rattle.sp_parse_expr_steps.specs.Reading.{IsRead, IsStop, operand_seen}
use Rattle.sp_expr_parser.proofs.ParserSteps.{parsed}
use Rattle.sp_expr_parser.proofs.parser.parse_expression.Goals as goal

pub returns-in-Ok : goal.returns-in-Ok
returns-in-Ok c =
    let types = c.args.types.now in
    let g = grammar.outside types in
    let part = c.in-Ok.part in
    let from = c.tokens_from-from.ensures.from in
    let h = subst (λ v. IsRead g (grammar.level 13) c.args.depth v (operand_seen part.tree) part.depth part.rest.now) from c.in-Ok.ensures in
    let shallow : depth (tree_of part.tree.tree) ≤ c.args.depth = omega (arith, h.deep, h.shallow) in
    parsed expressions types (expression_ask types) (expression_reader types) c.args.depth c.args.tokens.now c.args.at part.rest.now (operand_seen part.tree) (tree_of part.tree.tree) c.count_before.result c.requires.within h.reads h.ended refl shallow c.count_before.ensures

pub error_of-requires-clause-stopped : goal.error_of-requires-clause-stopped
error_of-requires-clause-stopped c =
    subst (λ v. IsStop (grammar.outside c.args.types.now) (grammar.level 13) c.args.depth v c.in-Err.stop) c.tokens_from-from.ensures.from c.in-Err.ensures
