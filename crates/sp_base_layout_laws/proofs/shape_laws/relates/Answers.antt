use Rattle.std.proofs.Common.{map}
use Rattle.sp_types.specs.View.{type_of, struct_of}
use Rattle.sp_base_layout_laws.proofs.Shaped.{is-shaped}
use Rattle.sp_base_layout_laws.proofs.shape_laws.relates.Goals as goal

pub returns : goal.returns
returns c = is-shaped (map struct_of c.args.structs.now) (type_of c.args.of.now)
