use Rattle.std.proofs.Common.{◌≡◌, take}
use Rattle.sp_engine_keeping.specs.Codes.{codes_from}
use Rattle.sp_engine_keeping.proofs.codes.codes_of.Given as goal

abbrev pub invariant-nodes : goal.invariant-nodes
invariant-nodes l = l.codes.items ≡ codes_from 0 (take l.node l.rows)
