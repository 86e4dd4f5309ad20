-- Why the dependencies of a system aren't kept.
use Rattle.std.specs.Prelude.{◌≡◌, ◌+◌}
use Rattle.sp_lattice.specs.System.{Meaning}
use Rattle.sp_deps.specs.Answer.{HasTooMany}
use Rattle.sp_deps.specs.declared.triples.DepError.{DepError}
use Rattle.sp_deps.specs.declared.triples.DepError.TheVariants.{TooMany, NoMemory}
use Rattle.sp_deps.specs.Rows.{most_dependencies}

-- too many dependencies, counted up to the first that is too many; or want of memory
abbrev pub IsCause : {V : Type 0} → Meaning V → DepError → Type 0
IsCause m (TooMany count) = (count ≡ most_dependencies + 1) × HasTooMany m
IsCause m NoMemory = Unit {0}
