use Rattle.sp_link_units.proofs.LinkLaws.{links_one}
use Rattle.sp_link_units.proofs.laws.links_are_one.Goals as goal

pub returns : goal.returns
returns c = links_one c.conflict_laws.ensures.one c.conflict_laws.ensures.exclude c.matching_laws.ensures.equal
