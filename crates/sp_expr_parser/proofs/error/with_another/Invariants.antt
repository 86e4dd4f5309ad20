-- The tokens so far and those that are left are all.
use Rattle.std.proofs.Common.{◌≡◌, ◌++◌, length}
use Rattle.sp_expr_parser.proofs.error.with_another.Given as goal

abbrev pub invariant-tokens : goal.invariant-tokens
invariant-tokens l = l.tokens.items ++ l.rest ≡ l.fn.front

abbrev pub decreases-tokens : goal.decreases-tokens
decreases-tokens l = length l.rest
