use Rattle.std.proofs.Common.{map, ap, ◌∙◌}
use Rattle.sp_types.specs.View.{struct_of}
use Rattle.sp_base_layouts.specs.declared.summaries.Summary.{Summary}
use Rattle.sp_base_layouts.proofs.Laid.{points_at}
use Rattle.sp_base_layouts.proofs.summaries.struct_points.Goals as goal

pub returns : goal.returns
returns c =
    ap (λ (s : Summary). s.points) c.summary_at.ensures
    ∙ points_at (map struct_of c.args.structs.now) c.args.summaries.now c.args.number c.requires
