-- What the sparse engine's analysis of a program ends with: the same report as the dense engine's, or
-- that there are too many dependencies.
use Rattle.std.specs.Prelude.{◌≡◌, ◌≤◌, ◌+◌, ◌⊎◌, ℕ, Bool, List}
use Rattle.sp_lattice.specs.Bound.{all_evaluations}
use Rattle.sp_ir.specs.Programs.{Lowered}
use Rattle.sp_deps.specs.Rows.{held, total, most_dependencies}
use Rattle.sp_deps.specs.Answer.{AreDependencies, HasTooMany}
use Rattle.sp_transfer.specs.Equations.{Equations, meaning_of}
use Rattle.sp_run_analysis.specs.Outcomes.{AreEquationsOf, IsReportOf}
use Rattle.sp_run_analysis.specs.declared.reports.Wanted.{Wanted}
use Rattle.sp_run_analysis.specs.declared.sparse.SparseOutcome.{SparseOutcome}
use Rattle.sp_run_analysis.specs.declared.sparse.SparseOutcome.TheVariants.{Reported, TooMany}

-- they have no more dependencies than are kept
abbrev pub AreKept : Equations → Type 0
AreKept e = (rows : List (List (ℕ × ℕ))) × AreDependencies (meaning_of e) rows × (total rows ≤ most_dependencies)

-- what comes of equations; nothing is evaluated where there are too many dependencies
abbrev pub Gives : List (List ℕ) → Wanted → Equations → ℕ → ℕ → SparseOutcome → Type 0
Gives names wanted e before after (Reported report) =
    AreKept e × IsReportOf names wanted e report.text.items report.count
Gives names wanted e before after TooMany = HasTooMany (meaning_of e) × (after ≡ before)

-- what comes of a program
abbrev pub Ends : Lowered → List (List ℕ) → Wanted → ℕ → ℕ → SparseOutcome → Type 0
Ends p names wanted before after outcome =
    (e : Equations) × AreEquationsOf p wanted.sharp e × Gives names wanted e before after outcome

-- nothing was evaluated; or there are no more dependencies than are kept, and as many evaluations at
-- most as there are nodes, and besides the height for each dependency
abbrev pub ServesWithin : Equations → ℕ → ℕ → Type 0
ServesWithin e before after = (after ≡ before)
    ⊎ ((rows : List (List (ℕ × ℕ))) × AreDependencies (meaning_of e) rows × (total rows ≤ most_dependencies)
    × (after ≤ before + all_evaluations (meaning_of e) (held rows)))

abbrev pub IsServed : Lowered → Bool → ℕ → ℕ → Type 0
IsServed p sharp before after = (after ≡ before)
    ⊎ ((e : Equations) × AreEquationsOf p sharp e × ServesWithin e before after)
