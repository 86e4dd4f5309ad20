use Rattle.std.proofs.lemmas.Result.{err_from_is_err_and}
use Rattle.sp_front.specs.Sources.{source_of}
use Rattle.sp_front.proofs.FileSteps.{no_unit}
use Rattle.sp_front.proofs.files.read_file.Goals as goal

pub returns-in_err-unit-clause-answer : goal.returns-in_err-unit-clause-answer
returns-in_err-unit-clause-answer c =
    let e = c.from_residual-in_err-unit in
    let p = err_from_is_err_and e.result e.ensures.1 in
    rw (p.1, p.2)
    (no_unit (record { names = c.args.names.now; room = c.args.room }) (source_of c.args.source.now)
    c.tokens_of.new.names c.in_ok-tokens.tokens.items c.in_err-unit.field-0.0
    c.in_ok-tokens.ensures.answer c.in_err-unit.ensures)
