-- Why a system isn't solved.
use Rattle.std.specs.Prelude.{◌≡◌, ◌<◌, ◌≤◌, ℕ}
use Rattle.sp_lattice.specs.System.{Meaning}
use Rattle.sp_dense.specs.Solution.{cells, most_cells}
use Rattle.sp_dense.specs.declared.solver.DenseError.{DenseError}
use Rattle.sp_dense.specs.declared.solver.DenseError.TheVariants.{TooLarge, NoMemory}

-- too many cells, and then nothing was evaluated; or want of memory, of a system that has not too many
abbrev pub IsCause : {V : Type 0} → Meaning V → ℕ → ℕ → DenseError → Type 0
IsCause m before after (TooLarge count) = (count ≡ cells m) × (most_cells < cells m) × (after ≡ before)
IsCause m before after NoMemory = cells m ≤ most_cells
