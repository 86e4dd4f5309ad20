-- The declarations that were read stand for all that was read.
use Rattle.std.proofs.Common.{◌≡◌, ◌≤◌, [], map, length}
use Rattle.sp_parse_trees.specs.View.{declaration_of, declarations}
use Rattle.sp_parse_trees.specs.Depth.{declarations_depth}
use Rattle.sp_parse_grammar.specs.CTable as grammar
use Rattle.sp_parse_tokens.specs.Ended.{IsEnded}
use Rattle.sp_parse_tokens.specs.Scopes.{there}
use Rattle.sp_parse_expr_steps.specs.Reading.{IsStep}
use Rattle.sp_parse_declarations.proofs.declarations.read_declarations.Given as goal

abbrev pub invariant-declarations : goal.invariant-declarations
invariant-declarations l = record {
  step : IsStep (there l.fn.context.types.now l.fn.context.scope) (grammar.declarations []) (grammar.declarations (map declaration_of l.all.items)) (λ a. a) l.fn.tokens l.rest;
  deep : l.reached ≡ declarations_depth (declarations (map declaration_of l.all.items));
  shallow : l.reached ≤ l.fn.depth;
  ended : IsEnded l.rest;
  fewer : length l.rest ≤ length l.fn.tokens;
}

abbrev pub decreases-declarations : goal.decreases-declarations
decreases-declarations l = length l.rest
