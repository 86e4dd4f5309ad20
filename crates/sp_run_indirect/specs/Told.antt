-- What points-to tells of the indirect calls of a program.
use Rattle.std.specs.Prelude.{◌≡◌, ℕ, List}
use Rattle.sp_ir.specs.Programs.{Lowered}
use Rattle.sp_base_sets.specs.Sets.{Ascends}
use Rattle.sp_base_sets.specs.Reached.{row}
use Rattle.sp_points_expr.specs.Tables.{Table, IsLeastClosed}
use Rattle.sp_points_rules.specs.Puts.{rules_of}
use Rattle.sp_graph.specs.Calls.{Callees}
use Rattle.sp_pre.specs.PointsTo.{AreCalls}
use Rattle.sp_run_indirect.specs.Texts.{calls_text}

-- The bytes tell the indirect calls of a program: cells point where the least table says that is
-- closed under the program's commands, each node calls just the functions that its command calls by
-- that, and these stand in the order of their numbers. Nothing is evaluated.
pub record AreCallsOf (p : Lowered) (names : List (List ℕ)) (bytes : List ℕ) : Type 0 where
  pub points : Table
  pub least : IsLeastClosed (rules_of p) points
  pub ascending : (c : ℕ) → Ascends (points c)
  pub calls : Callees
  pub exact : AreCalls p points calls
  pub in_order : (n : ℕ) → Ascends (row calls n)
  pub bytes_are : bytes ≡ calls_text names p calls
