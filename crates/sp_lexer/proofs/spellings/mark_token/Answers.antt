use Rattle.std.proofs.Common.{refl, sym, ap, length}
use Rattle.sp_lexer.specs.Scan.{punctuator, reads_mark}
use Rattle.sp_lexer.proofs.TokenLaws.{token-at, first-mark, no-mark}
use Rattle.sp_lexer.proofs.spellings.mark_token.Goals as goal

pub returns-in-Some-clause-token : goal.returns-in-Some-clause-token
returns-in-Some-clause-token c = λ names.
    token-at names c.args.text.now _ _ (punctuator c.in-Some.mark) _ _
    (first-mark c.args.text.now c.in-Some.mark c.requires.some c.requires.letter c.requires.run c.requires.quote c.in-Some.ensures)
    (reads_mark c.in-Some.mark refl refl)
    refl
    (ap length (sym c.spelling.ensures))

pub returns-in-None-clause-fault : goal.returns-in-None-clause-fault
returns-in-None-clause-fault c = no-mark c.args.text.now c.requires.some c.requires.letter c.requires.run c.requires.quote c.in-None.ensures
