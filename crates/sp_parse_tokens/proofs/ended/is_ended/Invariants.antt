use Rattle.std.proofs.Common.{length}
use Rattle.sp_parse_tokens.specs.Ended.{IsEnded}
use Rattle.sp_parse_tokens.proofs.ended.is_ended.Given as goal

abbrev pub invariant-tokens : goal.invariant-tokens
invariant-tokens l = record { all : IsEnded l.rest → IsEnded l.fn.tokens; rest : IsEnded l.fn.tokens → IsEnded l.rest }

abbrev pub decreases-tokens : goal.decreases-tokens
decreases-tokens l = length l.rest
