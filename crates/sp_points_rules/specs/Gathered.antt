-- Puts that are gathered for one command, and the rows that were looked at.
use Rattle.std.specs.Prelude.{◌≡◌, ◌⊎◌, ℕ, true, List}
use Rattle.sp_base_sets.specs.Sets.{has, Includes}
use Rattle.sp_base_sets.specs.Reached.{row}
use Rattle.sp_points_expr.specs.Tables.{Table, Limited}
use Rattle.sp_points_expr.specs.Growing.{in_puts}
use Rattle.sp_points_rules.specs.declared.gathered.Gathered.{Gathered}

-- A set has just what a relation gives by these rows; and by any table that has no more than they
-- where was looked, it gives no more.
pub record Finds (rows : List (List ℕ)) (F : Table → ℕ → Type 0) (seen set : List ℕ) : Type 0 where
  pub sound : (r : ℕ) → has r set ≡ true → F (row rows) r
  pub whole : (u : Table) → Limited rows seen u → (r : ℕ) → F u r → has r set ≡ true

-- The same of the puts that came.
pub record Adds (rows : List (List ℕ)) (F : Table → ℕ → ℕ → Type 0) (old new : Gathered) : Type 0 where
  pub sees : Includes old.seen new.seen
  pub kept : (c r : ℕ) → in_puts old.puts.items c r ≡ true → in_puts new.puts.items c r ≡ true
  pub origin : (c r : ℕ) → in_puts new.puts.items c r ≡ true
      → (in_puts old.puts.items c r ≡ true) ⊎ F (row rows) c r
  pub all : (u : Table) → Limited rows new.seen u → (c r : ℕ) → F u c r
      → in_puts new.puts.items c r ≡ true
