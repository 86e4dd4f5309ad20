-- The laws of conditions, as the layers above use them.
use Rattle.std.specs.Prelude.{◌≡◌, true}
use Rattle.sp_lattice.specs.declared.relations.Relation.{Relation}
use Rattle.sp_ir.specs.Commands.{Expression}
use Rattle.sp_eval.specs.Evaluation.{is_proper}
use Rattle.sp_effect_rows.specs.Laws.{IsLawful}
use Rattle.sp_effect_assign.specs.Scene.{Scene, IsScene}
use Rattle.sp_effect_assume.specs.Conditions.{assuming, assume_defines, assume_uses}

-- a condition is a lawful row: it defines what its sides may name
pub record ConditionLaws : Type 0 where
  pub lawful : (c : Scene) → IsScene c → (e : Expression) (op : Relation) (f : Expression)
      → is_proper e ≡ true → is_proper f ≡ true
      → IsLawful c.setting (assume_defines c e f) (assume_uses c e f) (assuming c e op f)
