use Rattle.std.proofs.Common.{map, ap, ◌∙◌}
use Rattle.sp_link_conflicts.specs.Earlier.{seen_items}
use Rattle.sp_link_conflicts.specs.Views.{seen_declaration}
use Rattle.sp_link_conflicts.proofs.earlier.Earlier.take_list.Goals as goal

pub returns-in-Some-clause-list : goal.returns-in-Some-clause-list
returns-in-Some-clause-list c = ap seen_items c.in-Some.ensures.value

pub returns-in-Some-clause-rest : goal.returns-in-Some-clause-rest
returns-in-Some-clause-rest c = c.in-Some.ensures.updates.0

pub returns-in-None-clause-list : goal.returns-in-None-clause-list
returns-in-None-clause-list c = ap (map seen_declaration) c.new.ensures.items ∙ ap seen_items c.in-None.ensures.value

pub returns-in-None-clause-rest : goal.returns-in-None-clause-rest
returns-in-None-clause-rest c = c.in-None.ensures.updates.0
