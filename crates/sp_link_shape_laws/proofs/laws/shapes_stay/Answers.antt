use Rattle.sp_link_shape_laws.proofs.Linked.{leaves_kept}
use Rattle.sp_link_shape_laws.proofs.laws.shapes_stay.Goals as goal

pub returns : goal.returns
returns c = record { leaves = leaves_kept c.matching_laws.ensures.numbered }
