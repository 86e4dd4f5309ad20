use Rattle.std.proofs.Common.{map}
use Rattle.std.proofs.lemmas.Result.{err_from_is_err_and}
use Rattle.sp_types.specs.Programs.{program_of}
use Rattle.sp_ir.specs.Programs.{lowered_of}
use Rattle.sp_front.specs.Sources.{source_of}
use Rattle.sp_front.proofs.ProgramSteps.{past}
use Rattle.sp_front.proofs.TypedFiles.{typed_program}
use Rattle.sp_front.proofs.program.lowered_of.Goals as goal

pub returns-in_err-lowered : goal.returns-in_err-lowered
returns-in_err-lowered c =
    let e = c.from_residual-in_err-lowered in
    let p = err_from_is_err_and e.result e.ensures.1 in
    rw (p.1, p.2)
    (past (map source_of c.args.sources.now) c.program_of.new.names (program_of c.in_ok-program.program)
    c.in_err-lowered.field-0.0 c.in_ok-program.ensures c.in_err-lowered.ensures)

pub returns : goal.returns
returns c =
    let laws = c.programs_are_typed.ensures in
    let p = program_of c.in_ok-program.program in
    let names = c.program_of.new.names in
    let l = lowered_of c.in_ok-lowered.lowered in
    record {
      program = p;
      is = c.in_ok-program.ensures;
      lowering = c.in_ok-lowered.ensures.0;
      fits = c.in_ok-lowered.ensures.1;
      formed = laws.formed p names l
          (typed_program laws.written laws.names laws.typed (map source_of c.args.sources.now) names p c.in_ok-program.ensures)
          c.in_ok-lowered.ensures.0 c.in_ok-lowered.ensures.1;
    }
