use Rattle.std.proofs.Common.{take, drop, refl, sym, ap, length-take-le}
use Rattle.sp_lexer.specs.Scan.{integer, as_number, reads_number}
use Rattle.sp_lexer.specs.Steps.{bad_spelling}
use Rattle.sp_lexer.proofs.TokenLaws.{token-at, first-run, first-run-is}
use Rattle.sp_lexer.proofs.spellings.number_token.Goals as goal

pub slice_bounds-run-end : goal.slice_bounds-run-end
slice_bounds-run-end c = sym (length-take-le _ _ c.run_length.ensures.within)

pub returns-in-Ok-clause-token : goal.returns-in-Ok-clause-token
returns-in-Ok-clause-token c = λ names.
    token-at names c.args.text.now (take c.run_length.result c.args.text.now) (drop c.run_length.result c.args.text.now) (integer c.in-Ok.number) _ _
    (rw c.run_length.ensures.length (first-run c.args.text.now c.requires))
    (reads_number (rw c.run_length.ensures.length (first-run-is c.args.text.now c.requires)) (ap as_number c.in-Ok.ensures))
    refl
    refl

pub returns-in-Err-clause-fault : goal.returns-in-Err-clause-fault
returns-in-Err-clause-fault c =
    bad_spelling (take c.run_length.result c.args.text.now) (drop c.run_length.result c.args.text.now)
    (rw c.run_length.ensures.length (first-run c.args.text.now c.requires))
    (reads_number (rw c.run_length.ensures.length (first-run-is c.args.text.now c.requires)) (ap as_number c.in-Err.ensures))
