-- How the lowering of a program ends.
use Rattle.std.specs.Prelude.{◌≡◌, ℕ, ◌<◌, ◌≤◌, List, length, Result, Ok, Err, ⊤}
use Rattle.sp_tree.specs.declared.fault.FaultKind.{FaultKind}
use Rattle.sp_tree.specs.declared.fault.FaultKind.TheVariants.{TooManyNodes, TooManyRegions}
use Rattle.sp_types.specs.Programs.{Program}
use Rattle.sp_ir.specs.Programs.{Lowered, lowered_of}
use Rattle.sp_ir.specs.declared.program.Lowered.{Lowered as CodeLowered}
use Rattle.sp_lower_objects.specs.Regions.{most_regions}
use Rattle.sp_lower.specs.Programs.{start_place, IsLowering}
use Rattle.sp_lower.specs.declared.program.LowerError.{LowerError}
use Rattle.sp_lower.specs.declared.program.LowerError.TheVariants as errors
use Rattle.sp_lower.specs.declared.limits.Outcome.{Outcome}
use Rattle.sp_lower.specs.declared.limits.Outcome.TheVariants as outcomes

-- ---- limits

abbrev pub most_nodes : ℕ
most_nodes = 500000

-- it is within them
abbrev pub Fits : Lowered → Type 0
Fits l = (length l.nodes ≤ most_nodes) × (length l.regions ≤ most_regions)

-- past the limit of nodes, or past that of regions and not of nodes
abbrev pub IsPast : Lowered → FaultKind → Type 0
IsPast l TooManyNodes = most_nodes < length l.nodes
IsPast l TooManyRegions = (length l.nodes ≤ most_nodes) × (most_regions < length l.regions)
IsPast l kind = ⊥

-- a program that is past a limit
pub record Refuses (p : Program) (names : List (List ℕ)) (kind : FaultKind) : Type 0 where
  pub whole : Lowered
  pub lowering : IsLowering p names whole
  pub past : IsPast whole kind

abbrev pub Lowers : Program → List (List ℕ) → Result CodeLowered LowerError → Type 0
Lowers p names (Ok l) = IsLowering p names (lowered_of l) × Fits (lowered_of l)
Lowers p names (Err (errors.Fault f)) = Refuses p names f.kind × (f.place ≡ start_place)
Lowers p names (Err errors.NoMemory) = ⊤

-- the same before the fault is made
abbrev pub Ends : Program → List (List ℕ) → Outcome → Type 0
Ends p names (outcomes.Whole l) = IsLowering p names (lowered_of l) × Fits (lowered_of l)
Ends p names (outcomes.Past kind) = Refuses p names kind

-- and of a program that is lowered so
abbrev pub EndsAt : Lowered → Outcome → Type 0
EndsAt whole (outcomes.Whole l) = (lowered_of l ≡ whole) × Fits (lowered_of l)
EndsAt whole (outcomes.Past kind) = IsPast whole kind
