use Rattle.std.proofs.Common.{map}
use Rattle.sp_types.specs.View.{struct_of}
use Rattle.sp_ir.specs.Programs.{object_of}
use Rattle.sp_lower_program_laws.specs.Laws.{table_with}
use Rattle.sp_lower_program_laws.proofs.Regions.{all-have}
use Rattle.sp_lower_program_laws.proofs.regions_law.Goals as goal

pub returns : goal.returns
returns c = λ table some typed.
    all-have (table_with (map struct_of c.args.structs.now) (map object_of c.args.objects.now)) table some 0 (map object_of c.args.objects.now) typed
