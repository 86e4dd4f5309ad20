-- The answers of `read_whole`.
use Rattle.std.specs.Prelude.{Result, Ok, Err}
use Rattle.sp_outside.specs.declared.input.ReadError.{ReadError}
use Rattle.sp_outside.specs.declared.input.ReadError.TheVariants.{Fault, TooLong, NoMemory}

-- P where the answer is `Fault`, and else Q
abbrev pub MatchFault : {T : Type 0} → Result T ReadError → Type 0 → Type 0 → Type 0
MatchFault (Ok text) P Q = Q
MatchFault (Err Fault) P Q = P
MatchFault (Err TooLong) P Q = Q
MatchFault (Err NoMemory) P Q = Q
