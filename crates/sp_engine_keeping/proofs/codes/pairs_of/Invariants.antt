use Rattle.std.proofs.Common.{◌≡◌, map, take}
use Rattle.sp_engine_keeping.specs.Codes.{pair}
use Rattle.sp_engine_keeping.proofs.codes.pairs_of.Given as goal

abbrev pub invariant-loop-row : goal.invariant-loop-row
invariant-loop-row l = l.pairs.items ≡ map pair (take l.row-index l.rows)
