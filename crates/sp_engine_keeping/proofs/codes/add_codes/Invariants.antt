use Rattle.std.proofs.Common.{◌≡◌, ◌++◌, map, take}
use Rattle.sp_engine_keeping.specs.Codes.{code}
use Rattle.sp_engine_keeping.proofs.codes.add_codes.Given as goal

abbrev pub invariant-loop-location : goal.invariant-loop-location
invariant-loop-location l = l.codes.items ≡ l.fn.codes.items ++ map (code l.node) (take l.location-index l.pairs)
