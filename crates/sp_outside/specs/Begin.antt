-- The answers of `begin`.
use Rattle.std.specs.Prelude.{Result, Ok, Err, ⊤}
use Rattle.sp_outside.specs.declared.input.BeginError.{BeginError}
use Rattle.sp_outside.specs.declared.input.BeginError.TheVariants.{Failed, NoMemory}

-- P holds, unless `begin` wanted memory
abbrev pub IfAnswered : Result (Unit {0}) BeginError → Type 0 → Type 0
IfAnswered (Ok done) P = P
IfAnswered (Err Failed) P = P
IfAnswered (Err NoMemory) P = ⊤
