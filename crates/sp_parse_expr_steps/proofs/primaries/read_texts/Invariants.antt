-- The numbers of the strings are those of the tokens that were read.
use Rattle.std.proofs.Common.{◌≤◌, length}
use Rattle.sp_parse_tokens.specs.Ended.{IsEnded}
use Rattle.sp_parse_tokens.specs.Scopes.{there}
use Rattle.sp_parse_expr_steps.proofs.primaries.read_texts.Given as goal
use Rattle.sp_parse_expr_steps.proofs.Texts.{TextsSoFar}

abbrev pub invariant-texts : goal.invariant-texts
invariant-texts l = record {
  so_far : TextsSoFar (there l.fn.context.types.now l.fn.context.scope) l.fn.first l.fn.tokens l.texts.items l.rest;
  ended : IsEnded l.rest;
  fewer : length l.rest ≤ length l.fn.tokens;
}

abbrev pub decreases-texts : goal.decreases-texts
decreases-texts l = length l.rest
