use Rattle.std.proofs.Common.{length, ap, ◌∙◌, subst, arith, length-drop}
use Rattle.sp_parse_grammar.specs.CTable as grammar
use Rattle.sp_parse_trees.specs.View.{specifiers_of}
use Rattle.sp_parse_laws.specs.Answers.{specifier_lists, specifiers_ask}
use Rattle.sp_parse_laws.proofs.Calls.{specifiers_reader}
use Rattle.sp_parse_expr_steps.specs.Reading.{IsStop}
use Rattle.sp_expr_parser.specs.Calling.{AreListed}
use Rattle.sp_expr_parser.proofs.ParserSteps.{parsed}
use Rattle.sp_expr_parser.proofs.parser.parse_specifiers.Goals as goal

pub returns-in-Ok : goal.returns-in-Ok
returns-in-Ok c =
    let types = c.args.types.now in
    let read = c.in-Ok.read in
    let h = subst (λ v. AreListed types c.args.depth v read.0.items read.1.now) c.tokens_from-from.ensures.from c.in-Ok.ensures in
    parsed specifier_lists types (specifiers_ask types) (specifiers_reader types) c.args.depth c.args.tokens.now c.args.at read.1.now h.all (specifiers_of read.0.items) c.count_before.result c.requires.within h.reads h.ended h.same h.shallow c.count_before.ensures

pub error_of-requires-clause-stopped : goal.error_of-requires-clause-stopped
error_of-requires-clause-stopped c =
    subst (λ v. IsStop (grammar.outside c.args.types.now) grammar.optional_specifiers c.args.depth v c.in-Err.stop) c.tokens_from-from.ensures.from c.in-Err.ensures

pub count_before-requires : goal.count_before-requires
count_before-requires c =
    let less = c.in-Ok.ensures.fewer in
    let size = ap length c.tokens_from-from.ensures.from ∙ length-drop c.args.at c.args.tokens.now in
    omega (arith, less, size)
