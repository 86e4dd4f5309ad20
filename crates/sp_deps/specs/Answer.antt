-- When rows of triples are the dependencies of a system, and when there are too many.
use Rattle.std.specs.Prelude.{◌≡◌, ◌+◌, ℕ, true, List, length, All}
use Rattle.sp_lattice.specs.System.{Meaning}
use Rattle.sp_lattice.specs.Dependency.{Depends, IsDependencies}
use Rattle.sp_deps.specs.Rows.{held, total, Ascends, most_dependencies}

-- a row for each node, each ascending, and in them exactly the dependencies
pub record AreDependencies {V : Type 0} (m : Meaning V) (rows : List (List (ℕ × ℕ))) : Type 0 where
  pub nodes : length rows ≡ m.nodes
  pub ascending : All Ascends rows
  pub exact : IsDependencies m (held rows)

-- there are more dependencies than are kept: ascending rows with one more, which all are dependencies
pub record HasTooMany {V : Type 0} (m : Meaning V) : Type 0 where
  pub rows : List (List (ℕ × ℕ))
  pub ascending : All Ascends rows
  pub sound : (from location to : ℕ) → held rows from location to ≡ true → Depends m from location to
  pub count : total rows ≡ most_dependencies + 1
