-- The values between the braces of an array or a struct are well typed start values (C90 6.5.7).
use Rattle.std.specs.Prelude.{◌≡◌, ℕ, Bool, true, false, List}
use Rattle.sp_parse_trees.specs.Syntax.{Init, list}
use Rattle.sp_types.specs.Types.{CType, array, structure}
use Rattle.sp_types.specs.Structs.{IsFormed}
use Rattle.sp_base_checked.specs.Answers.{accepted}
use Rattle.sp_check_operands.specs.Conversions.{is_function}
use Rattle.sp_check_env.specs.Env.{Env}
use Rattle.sp_check_initialisers.specs.declared.targets.Target.{Target}
use Rattle.sp_check_initialisers.specs.Initialisers.{Started, started}
use Rattle.sp_check_typing.specs.Starts.{AreLeafValues}
use Rattle.sp_check_written_laws.specs.Written.{IsWrittenInit}
use Rattle.sp_check_written_laws.specs.Laws.{AreByteNames}
use Rattle.sp_check_expr_laws.specs.Sound.{IsSound, IsSoundEnv, scene_of}

-- values that go to the leaves of an object: those of an array or a struct between braces
abbrev pub goes_to_leaves : CType → Init → Bool
goes_to_leaves (array t n) (list is c) = true
goes_to_leaves (structure k) (list is c) = true
goes_to_leaves t i = false

-- such values are typed where the environment is sound
abbrev pub LeavesAreTyped : Type 0
LeavesAreTyped = (names : List (List ℕ)) (own : ℕ → Bool) (env : Env) (w : Target) (t : CType)
    (i : Init)
    → AreByteNames names → IsSoundEnv own env → IsFormed env.tables.structs t → is_function t ≡ false
    → IsSound t
    → IsWrittenInit i → goes_to_leaves t i ≡ true
    → (x : Started × Env) → started names env w t i ≡ accepted x
    → AreLeafValues (scene_of own x.1) x.0.of x.0.values
