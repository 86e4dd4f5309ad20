use Rattle.sp_types.specs.Programs.{program_of}
use Rattle.sp_ir.specs.Programs.{lowered_of}
use Rattle.sp_lower_program_laws.proofs.Typed.{lowered-holds}
use Rattle.sp_lower_program_laws.proofs.lowered_regions_law.Goals as goal

pub returns : goal.returns
returns c = lowered-holds (program_of c.args.program.now) c.args.names.now (lowered_of c.args.lowered.now)
