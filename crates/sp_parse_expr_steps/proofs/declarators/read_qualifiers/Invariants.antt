-- The words are those of the tokens that were read.
use Rattle.std.proofs.Common.{◌≤◌, length}
use Rattle.sp_parse_tokens.specs.Ended.{IsEnded}
use Rattle.sp_parse_tokens.specs.Scopes.{there}
use Rattle.sp_parse_expr_steps.proofs.declarators.read_qualifiers.Given as goal
use Rattle.sp_parse_expr_steps.proofs.Qualifiers.{QualifiersSoFar}

abbrev pub invariant-qualifiers : goal.invariant-qualifiers
invariant-qualifiers l = record {
  so_far : QualifiersSoFar (there l.fn.context.types.now l.fn.context.scope) l.fn.tokens l.all.items l.rest;
  ended : IsEnded l.rest;
  fewer : length l.rest ≤ length l.fn.tokens;
}

abbrev pub decreases-qualifiers : goal.decreases-qualifiers
decreases-qualifiers l = length l.rest
