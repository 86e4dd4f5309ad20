use Rattle.std.proofs.Common.{ap, ◌∙◌}
use Rattle.sp_link_structs.specs.Groups.{items_of}
use Rattle.sp_link_structs.proofs.groups.Groups.take_list.Goals as goal

pub returns-in-Some-clause-list : goal.returns-in-Some-clause-list
returns-in-Some-clause-list c = ap items_of c.in-Some.ensures.value

pub returns-in-Some-clause-rest : goal.returns-in-Some-clause-rest
returns-in-Some-clause-rest c = c.in-Some.ensures.updates.0

pub returns-in-None-clause-list : goal.returns-in-None-clause-list
returns-in-None-clause-list c = c.new.ensures.items ∙ ap items_of c.in-None.ensures.value

pub returns-in-None-clause-rest : goal.returns-in-None-clause-rest
returns-in-None-clause-rest c = c.in-None.ensures.updates.0
