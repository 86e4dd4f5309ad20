-- The laws of these rows, as the layers above use them.
use Rattle.std.specs.Prelude.{◌≡◌, ℕ, List, Option}
use Rattle.sp_ir.specs.Commands.{Expression, Lvalue, copy, call, return, outside}
use Rattle.sp_points_rules.specs.Puts.{command_at}
use Rattle.sp_effect_rows.specs.Storing.{may_hit}
use Rattle.sp_effect_rows.specs.Laws.{IsLawful, IsPlain}
use Rattle.sp_effect_scene.specs.Analysed.{Analysed, setting_of}
use Rattle.sp_effect_scene.specs.Whole.{IsAnalysed}
use Rattle.sp_effect_call.specs.Copies.{leaf_destination, copying, copy_uses, result_defines}
use Rattle.sp_effect_call.specs.Outside.{from_outside, outside_uses}
use Rattle.sp_effect_call.specs.Returns.{returning, return_uses}
use Rattle.sp_effect_call.specs.Passed.{calling, call_defines, call_uses}

-- in a whole analysis each command's row is lawful, with these definitions and uses; and what a result
-- puts always rises
pub record CallLaws : Type 0 where
  pub copied : (a : Analysed) → IsAnalysed a → (n : ℕ) (to from : Lvalue)
      → command_at a.program n ≡ copy to from
      → IsLawful (setting_of a) (may_hit (leaf_destination a to)) (copy_uses a to from)
      (copying a to from)
  pub came : (a : Analysed) → IsAnalysed a → (n : ℕ) (to : Option Lvalue)
      (args : List Expression) (site : Option ℕ)
      → command_at a.program n ≡ outside to args site
      → IsLawful (setting_of a) (result_defines a to) (outside_uses a to args)
      (from_outside a to site)
  pub returned : (a : Analysed) → IsAnalysed a → (n c : ℕ) (to : Option Lvalue)
      → command_at a.program n ≡ return c to
      → IsLawful (setting_of a) (result_defines a to) (return_uses a c to) (returning a c to)
  pub called : (a : Analysed) → IsAnalysed a → (n : ℕ) (callee : Expression)
      (args : List Expression) → command_at a.program n ≡ call callee args
      → IsLawful (setting_of a) (call_defines a n) (call_uses a n callee args) (calling a n args)
  pub came_plain : (a : Analysed) → IsAnalysed a → (n : ℕ) (to : Option Lvalue)
      (args : List Expression) (site : Option ℕ)
      → command_at a.program n ≡ outside to args site
      → IsPlain (setting_of a) (from_outside a to site)
  pub returned_plain : (a : Analysed) → IsAnalysed a → (n c : ℕ) (to : Option Lvalue)
      → command_at a.program n ≡ return c to → IsPlain (setting_of a) (returning a c to)
