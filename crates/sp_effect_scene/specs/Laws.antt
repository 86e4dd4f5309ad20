-- What the effects of commands ask of an analysed program, as the layers above use it.
use Rattle.std.specs.Prelude.{◌≡◌, ◌<◌, ◌≤◌, ℕ, true, length, Option, Some}
use Rattle.sp_tree.specs.declared.token.Punct.{Punct}
use Rattle.sp_lattice.specs.declared.relations.Relation.{Relation}
use Rattle.sp_base_sets.specs.Sets.{has}
use Rattle.sp_base_sets.specs.Reached.{row}
use Rattle.sp_ir.specs.Commands.{Expression, Lvalue, Command, assign, assume}
use Rattle.sp_ir.specs.Formed.{table_of, IsCommand}
use Rattle.sp_points_rules.specs.Puts.{Puts, command_at}
use Rattle.sp_eval.specs.Numbers.{relation_of}
use Rattle.sp_eval.specs.Evaluation.{is_proper, is_proper_lvalue}
use Rattle.sp_effect_assign.specs.Scene.{IsScene}
use Rattle.sp_effect_assign.specs.Laws.{IsAssignClosed}
use Rattle.sp_effect_scene.specs.Analysed.{Analysed, scene_of}
use Rattle.sp_effect_scene.specs.Whole.{IsAnalysed}

-- points-to is closed under a command: a cell may point to what the command lets it point to
abbrev pub IsPutClosed : Analysed → Command → Type 0
IsPutClosed a c = (cell r : ℕ) → Puts a.program (row a.told.rows) c cell r
    → has r (row a.told.rows cell) ≡ true

-- an assignment of the program: what it names is proper, and points-to is closed under it
pub record IsLawfulAssign (a : Analysed) (to : Lvalue) (e : Expression) : Type 0 where
  pub lvalue : is_proper_lvalue to ≡ true
  pub value : is_proper e ≡ true
  pub closed : IsAssignClosed (scene_of a) to e

-- a condition of the program: its sides are proper, and it is a relation
pub record IsLawfulCondition (left : Expression) (op : Punct) (right : Expression) : Type 0 where
  pub left_proper : is_proper left ≡ true
  pub right_proper : is_proper right ≡ true
  pub relation : Relation
  pub is : relation_of op ≡ Some relation

pub record IsAnalysisLawful (a : Analysed) : Type 0 where
  pub scene : IsScene (scene_of a)
  -- only regions of the program point, and to such of the program: at most 200,000 each
  pub within : (c r : ℕ) → has r (row a.told.rows c) ≡ true
      → (c < length a.program.regions) × (r < length a.program.regions)
  pub few : (c : ℕ) → length (row a.told.rows c) ≤ 200000
  -- the command of each node is formed, and points-to is closed under it
  pub formed : (n : ℕ) (c : Command) → command_at a.program n ≡ c
      → (f : Option ℕ) × IsCommand (table_of a.program) a.program.regions n f c
  pub closed : (n : ℕ) (c : Command) → command_at a.program n ≡ c → IsPutClosed a c
  pub assigns : (n : ℕ) (to : Lvalue) (e : Expression)
      → command_at a.program n ≡ assign to e → IsLawfulAssign a to e
  pub conditions : (n : ℕ) (left : Expression) (op : Punct) (right : Expression)
      → command_at a.program n ≡ assume left op right → IsLawfulCondition left op right

abbrev pub SceneLaws : Type 0
SceneLaws = (a : Analysed) → IsAnalysed a → IsAnalysisLawful a
