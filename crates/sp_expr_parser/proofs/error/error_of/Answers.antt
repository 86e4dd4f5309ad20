use Rattle.std.proofs.Common.{subst, take, drop}
use Rattle.sp_parse_grammar.specs.CTable as grammar
use Rattle.sp_parse_expr_steps.specs.Reading.{IsStop}
use Rattle.sp_expr_parser.specs.Parsing.{item_of}
use Rattle.sp_expr_parser.proofs.Errors.{deep_refused}
use Rattle.sp_expr_parser.proofs.error.error_of.Goals as goal

pub returns-in-TooDeep : goal.returns-in-TooDeep
returns-in-TooDeep c =
    let text = drop c.args.at c.args.tokens.now in
    let h = subst (λ s. IsStop (grammar.outside c.args.types.now) (item_of c.args.call) c.args.depth text s) c.in-TooDeep.is c.requires.stopped in
    deep_refused c.args.call c.args.types.now c.args.depth (take c.args.at c.args.tokens.now) text c.in-TooDeep.rest.now h.0 c.next_token.result.0 c.next_token.result.1.now c.next_token.ensures
