-- Numbers kept as a sign and 128 bits.
use Rattle.std.specs.Prelude.{◌≡◌, if◌then◌else◌, Option, ℤ, pos, negsuc, FitsSigned, MatchOption}
use Rattle.std.specs.Int.{w128}
use Rattle.sp_interval.specs.declared.wide.Wide.{Wide}

-- the number that is kept: `size`, or -1 less `size` where it is negative
abbrev pub number_of : Wide → ℤ
number_of w = if w.is_negative then negsuc w.size else pos w.size

-- n is z in 128 bits with the sign, or nothing where they can't hold z
abbrev pub IsNarrow : ℤ → Option ℤ → Type 0
IsNarrow z n = MatchOption n (¬ FitsSigned w128 z) (λ m. m ≡ z)
