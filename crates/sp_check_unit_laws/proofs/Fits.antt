-- What a checked statement asks of the function around it: the objects of its blocks are the
-- function's own, and what it jumps to is among the labels.
use Rattle.std.specs.Prelude.{◌≡◌, ℕ, Bool, true, List, Some, slice_get}
use Rattle.sp_tree.specs.declared.fault.Place.{Place}
use Rattle.sp_types.specs.Types.{CType}
use Rattle.sp_types.specs.Statements.{TypedStatement}
use Rattle.sp_check_env.specs.Env.{Env}
use Rattle.sp_check_statement_rules.specs.Labels.{jumps_in}
use Rattle.sp_check_statement_rules.specs.Blocks.{locals_in}
use Rattle.sp_check_typing.specs.Statements.{Setting}
use Rattle.sp_check_expr_laws.specs.Sound.{scene_of}

abbrev pub AreOwn : (ℕ → Bool) → List ℕ → Type 0
AreOwn own ns = (i n : ℕ) → slice_get ns i ≡ Some n → own n ≡ true

abbrev pub IsLabel : List ℕ → ℕ → Type 0
IsLabel labels n = (i : ℕ) × (slice_get labels i ≡ Some n)

abbrev pub AreLabels : List ℕ → List (ℕ × Place) → Type 0
AreLabels labels js = (i : ℕ) (j : ℕ × Place) → slice_get js i ≡ Some j → IsLabel labels j.0

abbrev pub Fits : (ℕ → Bool) → List ℕ → TypedStatement → Type 0
Fits own labels s = AreOwn own (locals_in s) × AreLabels labels (jumps_in s)

abbrev pub setting_of : (ℕ → Bool) → List ℕ → CType → Env → Setting
setting_of own labels t env =
    record { scene = scene_of own env; labels = labels; result = t }
