use Rattle.std.proofs.Common.{map}
use Rattle.sp_types.specs.View.{type_of, struct_of}
use Rattle.sp_lower_program_laws.proofs.Pointers.{pointers-hold}
use Rattle.sp_lower_program_laws.proofs.pointers_law.Goals as goal

pub returns : goal.returns
returns c = pointers-hold (map struct_of c.args.structs.now) (type_of c.args.of.now)
