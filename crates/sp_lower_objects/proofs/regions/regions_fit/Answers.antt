use Rattle.std.proofs.Common.{map}
use Rattle.sp_types.specs.View.{struct_of}
use Rattle.sp_ir.specs.Programs.{object_of}
use Rattle.sp_lower_objects.proofs.Lengths.{length-all}
use Rattle.sp_lower_objects.proofs.regions.regions_fit.Goals as goal

pub returns : goal.returns
returns c =
    rw (length-all (map struct_of c.args.structs.now) 0 (map object_of c.args.objects.now)) c.counts_fit.ensures
