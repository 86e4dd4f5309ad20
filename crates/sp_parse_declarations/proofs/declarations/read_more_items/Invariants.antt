-- The declarators that were read stand for all that was read.
use Rattle.std.proofs.Common.{◌≡◌, ◌≤◌, map, length}
use Rattle.sp_parse_trees.specs.Depth.{items_depth}
use Rattle.sp_parse_grammar.specs.CTable as grammar
use Rattle.sp_parse_tokens.specs.Ended.{IsEnded}
use Rattle.sp_parse_tokens.specs.Makers.{all_items}
use Rattle.sp_parse_tokens.specs.Scopes.{there, allowed_seen}
use Rattle.sp_parse_expr_steps.specs.Reading.{IsStep}
use Rattle.sp_parse_expr_steps.specs.Declaring.{item_seen}
use Rattle.sp_parse_declarations.specs.Seen.{item_part}
use Rattle.sp_parse_declarations.proofs.DeclarationSteps.{several}
use Rattle.sp_parse_declarations.proofs.declarations.read_more_items.Given as goal

abbrev pub invariant-items : goal.invariant-items
invariant-items l = record {
  step : IsStep (there l.fn.context.types.now l.fn.context.scope) (grammar.more_items (item_part l.fn.first)) (grammar.more_items (several (map item_seen l.all.items) l.names.items (allowed_seen l.behind))) (λ a. a) l.fn.tokens l.rest;
  deep : l.reached ≡ items_depth (all_items (map item_seen l.all.items));
  shallow : l.reached ≤ l.fn.depth;
  ended : IsEnded l.rest;
  fewer : length l.rest ≤ length l.fn.tokens;
}

abbrev pub decreases-items : goal.decreases-items
decreases-items l = length l.rest
