use Rattle.std.proofs.Common.{refl}
use Rattle.sp_lexer.specs.Scan.{over_blank}
use Rattle.sp_lexer.proofs.pieces.pass_blank.Goals as goal

pub returns-clause-step : goal.returns-clause-step
returns-clause-step c = λ names. over_blank c.in-Some.blank.now c.requires.piece c.in-Some.ensures.cases.0 refl c.after_blank.ensures
