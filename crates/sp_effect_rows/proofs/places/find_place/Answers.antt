use Rattle.sp_effect_rows.proofs.Ordered.{absent}
use Rattle.sp_effect_rows.proofs.places.find_place.Goals as goal

pub returns-in-Err-clause-absent : goal.returns-in-Err-clause-absent
returns-in-Err-clause-absent c = absent c.args.places.now c.args.location c.in-Err.field-0 c.requires c.in-Err.ensures.position
