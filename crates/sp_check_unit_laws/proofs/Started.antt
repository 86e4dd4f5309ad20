-- What the checks of initialisers show (C90 6.5.7).
use Rattle.std.specs.Prelude.{◌≡◌, ℕ, Bool, true, false, List}
use Rattle.sp_parse_trees.specs.Syntax.{Init}
use Rattle.sp_types.specs.Types.{CType}
use Rattle.sp_types.specs.Structs.{IsFormed}
use Rattle.sp_base_checked.specs.Answers.{accepted}
use Rattle.sp_check_operands.specs.Conversions.{is_function}
use Rattle.sp_check_env.specs.Env.{Env}
use Rattle.sp_check_initialisers.specs.declared.targets.Target.{Target}
use Rattle.sp_check_initialisers.specs.Initialisers.{Started, started}
use Rattle.sp_check_typing.specs.Starts.{AreLeafValues, IsStarted}
use Rattle.sp_check_written_laws.specs.Written.{IsWrittenInit}
use Rattle.sp_check_expr_laws.specs.Sound.{IsSound, IsSoundEnv, scene_of}

-- in the environment behind the initialiser; each value of an object that lasts goes to a leaf
pub record IsStart (own : ℕ → Bool) (w : Target) (env : Env) (x : Started) : Type 0 where
  pub automatic : w.fixed ≡ false → IsStarted (scene_of own env) x.of x.values
  pub static : w.fixed ≡ true → AreLeafValues (scene_of own env) x.of x.values

-- an object of this type with this initialiser, in a sound environment
abbrev pub StartsAreTyped : List (List ℕ) → Type 0
StartsAreTyped names = (own : ℕ → Bool) (env : Env) (w : Target) (t : CType) (i : Init)
    → IsSoundEnv own env → IsFormed env.tables.structs t → is_function t ≡ false → IsSound t
    → IsWrittenInit i → (x : Started × Env) → started names env w t i ≡ accepted x
    → IsStart own w x.1 x.0
