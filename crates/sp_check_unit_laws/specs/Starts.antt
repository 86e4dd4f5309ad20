-- Values of objects that last are constants (C90 6.4).
use Rattle.std.specs.Prelude.{◌≡◌, ℕ, Bool, true}
use Rattle.sp_check_env.specs.Env.{Env}
use Rattle.sp_types.specs.Typed.{Typed}
use Rattle.sp_check_initialisers.specs.StaticValues.{is_static}
use Rattle.sp_check_typing.specs.Trees.{IsTyped}
use Rattle.sp_check_typing.specs.Constants.{is_constant}
use Rattle.sp_check_expr_laws.specs.Sound.{lasting_alone, scene_of}

-- a value that the checks take for an object that lasts is a constant, and typed where what lasts is
-- seen alone (C90 6.4)
abbrev pub StaticsAreTyped : Type 0
StaticsAreTyped = (own : ℕ → Bool) (env : Env) (e : Typed) → is_static env.tables.objects e ≡ true
    → IsTyped (scene_of own env) e
    → (is_constant e ≡ true) × IsTyped (scene_of lasting_alone env) e
