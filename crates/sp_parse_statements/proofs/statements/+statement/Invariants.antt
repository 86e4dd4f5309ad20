-- The readers end since each takes a token before it reads a statement inside. The statements that were read stand for all that
-- was read.
use Rattle.std.proofs.Common.{◌≡◌, ◌+◌, ◌*◌, ◌≤◌, [], map, length}
use Rattle.sp_parse_trees.specs.View.{statement_of}
use Rattle.sp_parse_trees.specs.Depth.{statements_depth}
use Rattle.sp_parse_grammar.specs.CTable as grammar
use Rattle.sp_parse_tokens.specs.Ended.{IsEnded}
use Rattle.sp_parse_tokens.specs.Makers.{all_statements}
use Rattle.sp_parse_tokens.specs.Scopes.{there}
use Rattle.sp_parse_expr_steps.specs.Reading.{IsStep}
use Rattle.sp_parse_statements.proofs.statements.+statement.Given as goal

abbrev pub decreases-read_statement : goal.decreases-read_statement
decreases-read_statement l = 4 * length l.tokens.now + 1

abbrev pub decreases-read_prefixed : goal.decreases-read_prefixed
decreases-read_prefixed l = 4 * length l.tokens.now

abbrev pub decreases-read_if : goal.decreases-read_if
decreases-read_if l = 4 * length l.tokens.now

abbrev pub decreases-read_else : goal.decreases-read_else
decreases-read_else l = 4 * length l.tokens.now

abbrev pub decreases-read_do : goal.decreases-read_do
decreases-read_do l = 4 * length l.tokens.now

abbrev pub decreases-read_block : goal.decreases-read_block
decreases-read_block l = 4 * length l.tokens.now

abbrev pub decreases-read_compound : goal.decreases-read_compound
decreases-read_compound l = 4 * length l.tokens.now + 3

abbrev pub decreases-read_statements : goal.decreases-read_statements
decreases-read_statements l = 4 * length l.tokens.now + 2

abbrev pub invariant-read_statements-statements : goal.invariant-read_statements-statements
invariant-read_statements-statements l = record {
  step : IsStep (there l.fn.context.types.now l.fn.context.scope) (grammar.statements []) (grammar.statements (map statement_of l.all.items)) (λ a. a) l.fn.tokens l.rest;
  deep : l.reached ≡ statements_depth (all_statements (map statement_of l.all.items));
  shallow : l.reached ≤ l.fn.depth;
  ended : IsEnded l.rest;
  fewer : length l.rest ≤ length l.fn.tokens;
}

abbrev pub decreases-read_statements-statements : goal.decreases-read_statements-statements
decreases-read_statements-statements l = length l.rest
