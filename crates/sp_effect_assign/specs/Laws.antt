-- The laws of assignments, as the layers above use them.
use Rattle.std.specs.Prelude.{◌≡◌, ℕ, true}
use Rattle.sp_lattice.specs.System.{has}
use Rattle.sp_ir.specs.Commands.{Expression, Lvalue}
use Rattle.sp_ir.specs.Denoted.{regions_of}
use Rattle.sp_eval.specs.Evaluation.{is_proper, is_proper_lvalue}
use Rattle.sp_effect_rows.specs.Setting.{cell_of}
use Rattle.sp_effect_rows.specs.Storing.{may_hit}
use Rattle.sp_effect_rows.specs.Laws.{IsLawful, IsPlain}
use Rattle.sp_effect_assign.specs.Scene.{Scene, IsScene}
use Rattle.sp_effect_assign.specs.Destinations.{bottom_regions, destination, assigning, assign_uses}

-- points-to is closed under an assignment: each cell that it may hit may point to each region of the
-- value
abbrev pub IsAssignClosed : Scene → Lvalue → Expression → Type 0
IsAssignClosed c l e = (r k q : ℕ) → has r (bottom_regions c.terrain c.setting.points_to l) ≡ true
    → (destination c l).hits r k ≡ true → has q (regions_of c.terrain c.setting.points_to e) ≡ true
    → has q (c.setting.points_to (cell_of c.setting k)) ≡ true

-- where points-to is closed, an assignment is a lawful row, with what it may hit as definitions
pub record AssignLaws : Type 0 where
  pub lawful : (c : Scene) → IsScene c → (l : Lvalue) (e : Expression) → is_proper_lvalue l ≡ true
      → is_proper e ≡ true → IsAssignClosed c l e
      → IsLawful c.setting (may_hit (destination c l)) (assign_uses c l e) (assigning c l e)
  pub plain : (c : Scene) → IsScene c → (l : Lvalue) (e : Expression) → is_proper_lvalue l ≡ true
      → is_proper e ≡ true → IsAssignClosed c l e
      → IsPlain c.setting (assigning c l e)
