-- Lowerings of well-typed programs are formed.
use Rattle.std.specs.Prelude.{ℕ, List}
use Rattle.sp_types.specs.Programs.{Program}
use Rattle.sp_ir.specs.Programs.{Lowered}
use Rattle.sp_ir.specs.Formed.{IsFormed}
use Rattle.sp_lower.specs.Answers.{Fits}
use Rattle.sp_lower.specs.Programs.{IsLowering}
use Rattle.sp_check_typing.specs.Programs.{IsTypedProgram}

-- where it is within the limits
abbrev pub LoweringsAreFormed : Type 0
LoweringsAreFormed = (p : Program) (names : List (List ℕ)) (l : Lowered) → IsTypedProgram p → IsLowering p names l → Fits l → IsFormed l
