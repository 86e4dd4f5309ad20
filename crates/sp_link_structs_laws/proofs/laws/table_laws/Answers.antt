use Rattle.sp_link_structs_laws.proofs.Linked.{linked_tables}
use Rattle.sp_link_structs_laws.proofs.Stays.{tables_stay}
use Rattle.sp_link_structs_laws.proofs.laws.table_laws.Goals as goal

pub returns-clause-stay : goal.returns-clause-stay
returns-clause-stay c = tables_stay c.matching_laws.ensures.numbered c.matching_laws.ensures.there

pub returns-clause-linked : goal.returns-clause-linked
returns-clause-linked c =
    linked_tables (tables_stay c.matching_laws.ensures.numbered c.matching_laws.ensures.there) c.matching_laws.ensures.there
