use Rattle.std.proofs.Common.{◌≤◌, refl, subst, drop, arith}
use Rattle.sp_parse_grammar.specs.CTable as grammar
use Rattle.sp_parse_trees.specs.View.{declarator_of}
use Rattle.sp_parse_trees.specs.Depth.{declarator_depth}
use Rattle.sp_parse_laws.specs.Answers.{declarators, declarator_ask}
use Rattle.sp_parse_laws.proofs.Calls.{declarator_reader}
use Rattle.sp_parse_expr_steps.specs.Reading.{IsStop}
use Rattle.sp_parse_expr_steps.specs.Declaring.{IsDeclared, declared_seen}
use Rattle.sp_parse_expr_steps.proofs.Concrete.{concrete_read}
use Rattle.sp_expr_parser.proofs.ParserSteps.{parsed}
use Rattle.sp_expr_parser.proofs.parser.parse_declarator.Goals as goal

pub returns-in-Ok : goal.returns-in-Ok
returns-in-Ok c =
    let types = c.args.types.now in
    let g = grammar.outside types in
    let part = c.in-Ok.part in
    let tree = declarator_of part.tree.tree in
    let from = c.tokens_from-from.ensures.from in
    let h = concrete_read g c.args.depth part.depth (drop c.args.at c.args.tokens.now) part.rest.now part.tree (subst (λ v. IsDeclared g (grammar.declarator grammar.concrete) (λ a. a) c.args.depth v part.tree part.depth part.rest.now) from c.in-Ok.ensures) in
    let shallow : declarator_depth tree ≤ c.args.depth = omega (arith, h.deep, h.shallow) in
    parsed declarators types (declarator_ask types) (declarator_reader types) c.args.depth c.args.tokens.now c.args.at part.rest.now (declared_seen part.tree tree) tree c.count_before.result c.requires.within h.reads h.ended refl shallow c.count_before.ensures

pub error_of-requires-clause-stopped : goal.error_of-requires-clause-stopped
error_of-requires-clause-stopped c =
    subst (λ v. IsStop (grammar.outside c.args.types.now) (grammar.declarator grammar.concrete) c.args.depth v c.in-Err.stop) c.tokens_from-from.ensures.from c.in-Err.ensures
