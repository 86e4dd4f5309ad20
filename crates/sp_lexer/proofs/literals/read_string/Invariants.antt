use Rattle.std.proofs.Common.{length}
use Rattle.sp_lexer.proofs.LiteralLaws.{Read}
use Rattle.sp_lexer.proofs.literals.read_string.Given as goal

-- the body stands for the values so far before those of the rest, and for no others
abbrev pub invariant-bytes : goal.invariant-bytes
invariant-bytes l = Read l.body l.rest l.values.items

abbrev pub decreases-bytes : goal.decreases-bytes
decreases-bytes l = length l.rest
