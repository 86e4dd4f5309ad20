use Rattle.sp_types.specs.Programs.{program_of}
use Rattle.sp_ir.specs.Programs.{lowered_of}
use Rattle.sp_lower_program_laws.proofs.One.{one-lowering}
use Rattle.sp_lower_program_laws.proofs.lowerings_law.Goals as goal

pub returns : goal.returns
returns c = one-lowering (program_of c.args.program.now) c.args.names.now (lowered_of c.args.lowered.now) (lowered_of c.args.other.now)
