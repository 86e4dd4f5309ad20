-- Expressions that the checks accept are well typed (C90 6.3).
use Rattle.std.specs.Prelude.{◌≡◌, ℕ, ◌&&◌, Bool, true, false, List}
use Rattle.sp_parse_trees.specs.Syntax.{Expression}
use Rattle.sp_types.specs.Types.{Struct}
use Rattle.sp_types.specs.Typed.{Typed, of}
use Rattle.sp_base_checked.specs.Answers.{accepted}
use Rattle.sp_check_operands.specs.Conversions.{is_array, is_function, is_lvalue}
use Rattle.sp_check_env.specs.Env.{Env}
use Rattle.sp_expr_check.specs.Expressions.{checked, value_checked}
use Rattle.sp_check_typing.specs.Trees.{IsTyped, has_place}
use Rattle.sp_check_typing.specs.Sorts.{IsKnown}
use Rattle.sp_check_written_laws.specs.Written.{IsWritten}
use Rattle.sp_check_written_laws.specs.Laws.{AreByteNames}
use Rattle.sp_check_expr_laws.specs.Sound.{IsSound, IsSoundEnv, scene_of}

-- Behind a rule that gives this tree: the tree is typed, and what was typed before it is so still.
pub record IsTypedBehind (own : ℕ → Bool) (env later : Env) (e : Typed) : Type 0 where
  pub typed : IsTyped (scene_of own later) e
  pub sound : IsSound (of e)
  pub placed : is_function (of e) ≡ true → has_place e ≡ true
  pub behind : IsSoundEnv own later
  pub still : (old : Typed) → IsTyped (scene_of own env) old → IsTyped (scene_of own later) old

-- It is a value (C90 6.2.2.1): no function, no array that is an lvalue, and no open struct.
pub record IsValue (ss : List Struct) (e : Typed) : Type 0 where
  pub no_function : is_function (of e) ≡ false
  pub no_lvalue_array : (is_lvalue e && is_array (of e)) ≡ false
  pub known : IsKnown ss (of e)

-- in a sound environment
abbrev pub ExpressionsAreTyped : Type 0
ExpressionsAreTyped = (own : ℕ → Bool) (names : List (List ℕ)) (env : Env) (e : Expression)
    → AreByteNames names → IsSoundEnv own env → IsWritten e
    → ((x : Typed × Env) → checked names env e ≡ accepted x → IsTypedBehind own env x.1 x.0)
    × ((x : Typed × Env) → value_checked names env e ≡ accepted x
    → IsTypedBehind own env x.1 x.0 × IsValue x.1.tables.structs x.0)
