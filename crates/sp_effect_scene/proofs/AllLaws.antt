-- The laws of an analysed program together.
use Rattle.std.proofs.Common.{◌≡◌, ℕ, subst, arith}
use Rattle.sp_ir.specs.Commands.{Expression, Lvalue, Command, assign}
use Rattle.sp_ir.specs.Formed.{table_of}
use Rattle.sp_points_rules.specs.Puts.{command_at}
use Rattle.sp_eval.proofs.ProperLaws.{expression-proper, lvalue-proper}
use Rattle.sp_effect_scene.specs.Analysed.{Analysed}
use Rattle.sp_effect_scene.specs.Whole.{IsAnalysed}
use Rattle.sp_effect_scene.specs.SceneLaws.{scene-is}
use Rattle.sp_effect_scene.specs.Laws.{IsPutClosed, IsLawfulAssign, SceneLaws}
use Rattle.sp_effect_scene.proofs.Formed.{command-formed, condition-lawful}
use Rattle.sp_effect_scene.proofs.Closed.{assign-closed}
use Rattle.sp_effect_scene.proofs.Few.{regions-there, targets-few}

module _ (a : Analysed) (whole : IsAnalysed a) where
  pub put-closed : (n : ℕ) (c : Command) → command_at a.program n ≡ c → IsPutClosed a c
  put-closed n c is = subst (IsPutClosed a) is (whole.points_to.closed n)

  assign-lawful : (n : ℕ) (to : Lvalue) (e : Expression) → command_at a.program n ≡ assign to e → IsLawfulAssign a to e
  assign-lawful n to e is =
      let found = command-formed a.program whole.formed n (assign to e) is in
      record {
        lvalue = lvalue-proper (table_of a.program) found.0 to found.1.0;
        value = expression-proper (table_of a.program) found.0 e found.1.1;
        closed = assign-closed a to e (put-closed n (assign to e) is);
      }

pub scene_laws : SceneLaws
scene_laws a whole = record {
  scene = scene-is a whole;
  within = regions-there a whole;
  few = λ c. let least = targets-few a whole c in omega (arith, least, whole.formed.few_regions);
  formed = command-formed a.program whole.formed;
  closed = put-closed a whole;
  assigns = assign-lawful a whole;
  conditions = condition-lawful a.program whole.formed;
}
