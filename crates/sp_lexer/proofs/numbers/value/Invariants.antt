use Rattle.std.proofs.Common.{◌≡◌, ◌<◌, ◌^◌, drop}
use Rattle.sp_lexer.specs.Numerals.{value_of, value_after}
use Rattle.sp_lexer.proofs.numbers.value.Given as goal

-- the value so far, with the digits that are left, is the value of all
abbrev pub invariant-loop-digit : goal.invariant-loop-digit
invariant-loop-digit l = record { all : value_after l.base l.value (drop l.digit-index l.digits) ≡ value_of l.base l.digits; fits : l.value < 2 ^ 64 }
