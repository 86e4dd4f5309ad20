-- So many levels were read, and the others are left.
use Rattle.std.proofs.Common.{◌≡◌, ◌≤◌, ◌-◌, length}
use Rattle.sp_parse_trees.specs.View.{tree_of}
use Rattle.sp_parse_trees.specs.Depth.{depth as depth_of}
use Rattle.sp_parse_grammar.specs.CTable.{tail}
use Rattle.sp_parse_tokens.specs.Ended.{IsEnded}
use Rattle.sp_parse_tokens.specs.Scopes.{there}
use Rattle.sp_parse_expr_steps.specs.Reading.{IsStep, operand_seen}
use Rattle.sp_parse_expr_reader.proofs.expressions.read_tail.Given as goal

abbrev pub invariant-levels : goal.invariant-levels
invariant-levels l = record {
  step : IsStep (there l.fn.context.types.now l.fn.context.scope) (tail 13 (operand_seen l.fn.left)) (tail (13 - l.reached) (operand_seen l.part.tree)) (λ a. a) l.fn.tokens l.part.rest.now;
  below : l.reached ≤ 13;
  deep : l.part.depth ≡ depth_of (tree_of l.part.tree.tree);
  shallow : l.part.depth ≤ l.fn.depth;
  ended : IsEnded l.part.rest.now;
  fewer : length l.part.rest.now ≤ length l.fn.tokens;
}

abbrev pub decreases-levels : goal.decreases-levels
decreases-levels l = 13 - l.reached
