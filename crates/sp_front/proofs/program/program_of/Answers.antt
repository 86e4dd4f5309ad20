use Rattle.std.proofs.Common.{map, ap}
use Rattle.std.proofs.lemmas.Result.{err_from_is_err_and}
use Rattle.sp_types.specs.Programs.{program_of}
use Rattle.sp_base_checked.specs.Units.{checked_unit_of}
use Rattle.sp_front.specs.Sources.{source_of}
use Rattle.sp_front.proofs.ProgramSteps.{linked, not_linked}
use Rattle.sp_front.proofs.program.program_of.Goals as goal

pub returns-in_err-program : goal.returns-in_err-program
returns-in_err-program c =
    let e = c.from_residual-in_err-program in
    let p = err_from_is_err_and e.result e.ensures.1 in
    rw (p.1, p.2)
    (not_linked (map source_of c.args.sources.now) c.read_files.new.names (map checked_unit_of c.in_ok-units.units.items)
    (map checked_unit_of c.deref.result.now) c.in_err-program.field-0.0 c.in_ok-units.ensures
    (ap (map checked_unit_of) c.deref.ensures.value) c.in_err-program.ensures)

pub returns : goal.returns
returns c =
    linked (map source_of c.args.sources.now) c.read_files.new.names (map checked_unit_of c.in_ok-units.units.items)
    (map checked_unit_of c.deref.result.now) (program_of c.in_ok-program.program) c.in_ok-units.ensures
    (ap (map checked_unit_of) c.deref.ensures.value) c.in_ok-program.ensures
