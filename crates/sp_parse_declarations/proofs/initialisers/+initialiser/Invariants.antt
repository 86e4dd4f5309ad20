-- The initialisers that were read stand for all that was read.
use Rattle.std.proofs.Common.{◌≡◌, ◌+◌, ◌*◌, ◌≤◌, [], ◌∷◌, map, length}
use Rattle.sp_parse_trees.specs.View.{inits}
use Rattle.sp_parse_trees.specs.Depth.{inits_depth}
use Rattle.sp_parse_grammar.specs.CTable as grammar
use Rattle.sp_parse_tokens.specs.Ended.{IsEnded}
use Rattle.sp_parse_tokens.specs.Scopes.{there}
use Rattle.sp_parse_expr_steps.specs.Reading.{IsStep}
use Rattle.sp_parse_declarations.specs.Seen.{init_seen}
use Rattle.sp_parse_declarations.proofs.initialisers.+initialiser.Given as goal

abbrev pub decreases-read_init : goal.decreases-read_init
decreases-read_init l = 2 * length l.tokens.now

abbrev pub decreases-read_inits : goal.decreases-read_inits
decreases-read_inits l = 2 * length l.tokens.now + 1

abbrev pub invariant-read_inits-inits : goal.invariant-read_inits-inits
invariant-read_inits-inits l = record {
  step : IsStep (there l.fn.context.types.now l.fn.context.scope) (grammar.inits (init_seen l.fn.first ∷ [])) (grammar.inits (map init_seen l.all.items)) (λ a. a) l.fn.tokens l.rest;
  deep : l.reached ≡ inits_depth (inits (map init_seen l.all.items));
  shallow : l.reached ≤ l.fn.depth;
  ended : IsEnded l.rest;
  fewer : length l.rest ≤ length l.fn.tokens;
}

abbrev pub decreases-read_inits-inits : goal.decreases-read_inits-inits
decreases-read_inits-inits l = length l.rest
