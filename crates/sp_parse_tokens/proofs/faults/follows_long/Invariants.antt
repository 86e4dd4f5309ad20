use Rattle.std.proofs.Common.{◌≡◌, false, drop}
use Rattle.sp_parse_tokens.specs.Faults.{ends_with_long}
use Rattle.sp_parse_tokens.proofs.faults.follows_long.Given as goal

abbrev pub invariant-loop-token : goal.invariant-loop-token
invariant-loop-token l = ends_with_long l.long (drop l.token-index l.front) ≡ ends_with_long false l.front
