use Rattle.std.proofs.Common.{◌≡◌, false, drop}
use Rattle.sp_parse_tokens.specs.Faults.{ends_with_opening}
use Rattle.sp_parse_tokens.proofs.faults.follows_opening.Given as goal

abbrev pub invariant-loop-token : goal.invariant-loop-token
invariant-loop-token l = ends_with_opening l.opening (drop l.token-index l.front) ≡ ends_with_opening false l.front
