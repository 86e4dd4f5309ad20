-- The bytes of files, and of one more.
use Rattle.std.proofs.Common.{◌≡◌, ◌+◌, List, [], ◌∷◌, ◌++◌, length, arith}
use Rattle.sp_front.specs.Sources.{Source, total_length}

pub total_last : (sources : List Source) (s : Source) → total_length (sources ++ s ∷ []) ≡ total_length sources + length s.text
total_last [] s = omega arith
total_last (x ∷ sources) s = let more = total_last sources s in omega (arith, more)
