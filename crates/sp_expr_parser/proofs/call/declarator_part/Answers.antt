use Rattle.std.proofs.Common.{◌≡◌, subst, arith}
use Rattle.sp_parse_grammar.specs.CTable as grammar
use Rattle.sp_parse_expr_steps.specs.Reading.{IsStop}
use Rattle.sp_expr_parser.proofs.call.declarator_part.Goals as goal

pub returns-then-depth-eq0 : goal.returns-then-depth-eq0
returns-then-depth-eq0 c =
    let none : 0 ≡ c.args.depth = omega arith in
    subst (λ d. IsStop (grammar.outside c.args.types.now) (grammar.declarator grammar.concrete) d c.args.tokens.now c.no_declarator.result) none c.no_declarator.ensures
