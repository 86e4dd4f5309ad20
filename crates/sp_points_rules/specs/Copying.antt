-- Copying cell by cell, step by step.
use Rattle.std.specs.Prelude.{◌≡◌, ◌<◌, ℕ, true, List, length, Some, slice_index}
use Rattle.sp_ir.specs.Programs.{Lowered}
use Rattle.sp_base_sets.specs.Sets.{has}
use Rattle.sp_points_expr.specs.Tables.{Table}
use Rattle.sp_points_rules.specs.Paths.{mirrored, pairs}
use Rattle.sp_points_rules.specs.Puts.{Corresponds}

-- a cell takes over what another points to
pub record TakesOver (u : Table) (cell source c r : ℕ) : Type 0 where
  pub is : c ≡ cell
  pub holds : has r (u source) ≡ true

pub record Mirrors (p : Lowered) (u : Table) (target source cell c r : ℕ) : Type 0 where
  pub other : ℕ
  pub alike : mirrored p target source cell ≡ Some other
  pub takes : TakesOver u cell other c r

pub record MirrorsBack (p : Lowered) (u : Table) (target source cell c r : ℕ) : Type 0 where
  pub other : ℕ
  pub alike : mirrored p source target cell ≡ Some other
  pub takes : TakesOver u other cell c r

pub record CopiesPair (p : Lowered) (u : Table) (target source c r : ℕ) : Type 0 where
  pub cell : ℕ
  pub fits : pairs p target source ≡ true
  pub alike : Corresponds p target source c cell
  pub holds : has r (u cell) ≡ true

abbrev pub CopiesFrom : Lowered → Table → ℕ → List ℕ → ℕ → ℕ → Type 0
CopiesFrom p u target sources c r = (k : ℕ) × (k < length sources)
    × CopiesPair p u target (slice_index sources k) c r
