-- What points-to tells of a program.
use Rattle.std.specs.Prelude.{◌≡◌, ◌↔◌, ℕ, Bool, true, List, length}
use Rattle.sp_ir.specs.Programs.{Lowered}
use Rattle.sp_base_sets.specs.Sets.{has}
use Rattle.sp_base_sets.specs.Reached.{row}
use Rattle.sp_points_expr.specs.Tables.{Table}
use Rattle.sp_points_rules.specs.Puts.{CallsBy, as_call, command_at}
use Rattle.sp_graph.specs.Calls.{Callees}

-- the regions to which each cell may point, the functions that each node calls, and a mark for each
-- function that is recursive
pub record Told : Type 0 where
  pub rows : List (List ℕ)
  pub calls : Callees
  pub recursive : List Bool

-- a set for each node: just the functions that its command calls, by what cells point to
pub record AreCalls (p : Lowered) (u : Table) (calls : Callees) : Type 0 where
  pub long : length calls ≡ length p.nodes
  pub exact : (n f : ℕ) → (has f (row calls n) ≡ true) ↔ CallsBy p u (as_call (command_at p n)) f
