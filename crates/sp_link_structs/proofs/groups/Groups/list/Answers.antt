use Rattle.std.proofs.Common.{ap, ◌∙◌}
use Rattle.sp_link_structs.specs.Groups.{items_of}
use Rattle.sp_link_structs.proofs.groups.Groups.list.Goals as goal

pub returns-in-Some : goal.returns-in-Some
returns-in-Some c = c.as_slice.ensures.value ∙ ap items_of c.in-Some.ensures.value

pub returns-in-None : goal.returns-in-None
returns-in-None c = ap items_of c.in-None.ensures.value
