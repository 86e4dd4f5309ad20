-- The law of indirect calls, as the layers above may use it.
use Rattle.std.specs.Prelude.{◌≡◌, ℕ, List}
use Rattle.sp_ir.specs.Programs.{Lowered}
use Rattle.sp_run_indirect.specs.Told.{AreCallsOf}

-- a program has no two texts of its indirect calls
abbrev pub CallsEqual : Type 0
CallsEqual = (p : Lowered) (names : List (List ℕ)) (xs ys : List ℕ)
    → AreCallsOf p names xs → AreCallsOf p names ys → xs ≡ ys
