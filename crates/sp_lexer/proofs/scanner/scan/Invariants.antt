use Rattle.std.proofs.Common.{length}
use Rattle.sp_lexer.specs.Scan.{start}
use Rattle.sp_lexer.proofs.AnswerLaws.{Scanning}
use Rattle.sp_lexer.proofs.scanner.scan.Given as goal

abbrev pub invariant-pieces : goal.invariant-pieces
invariant-pieces l = Scanning l.fn.names l.names l.text (start l.name) l.room l.tokens.items l.rest l.spot

abbrev pub decreases-pieces : goal.decreases-pieces
decreases-pieces l = length l.rest
