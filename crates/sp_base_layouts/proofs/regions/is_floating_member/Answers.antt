use Rattle.std.proofs.Common.{map, ◌∙◌}
use Rattle.sp_types.specs.View.{type_of, struct_of}
use Rattle.sp_base_layouts.proofs.Laid.{floating-laid}
use Rattle.sp_base_layouts.proofs.regions.is_floating_member.Goals as goal

pub returns : goal.returns
returns c =
    c.is_floating.ensures ∙ floating-laid (map struct_of c.args.layouts.now.structs.now) (type_of c.args.of.now)
