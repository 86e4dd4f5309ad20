-- A program has no two lowerings.
use Rattle.std.proofs.Common.{◌≡◌, ℕ, List, ap, sym, ◌∙◌}
use Rattle.sp_types.specs.Programs.{Program}
use Rattle.sp_ir.specs.Programs.{Lowered}
use Rattle.sp_lower.specs.Programs.{lowered_program}
use Rattle.sp_lower_program_laws.specs.Laws.{LoweringsEqual}

pub one-lowering : (p : Program) (names : List (List ℕ)) (l m : Lowered) → LoweringsEqual p names l m
one-lowering p names l m one other =
    one.is
    ∙ ap (λ w. lowered_program p names w) (one.numbered.functions ∙ sym other.numbered.functions)
    ∙ sym other.is
