use Rattle.sp_link_entries_laws.proofs.Objects.{objects_stand, arrays_complete, functions_stand, own_objects_apart}
use Rattle.sp_link_entries_laws.proofs.Definitions.{linked_definitions, definitions_there, objects_numbered, functions_numbered}
use Rattle.sp_link_entries_laws.proofs.Formed.{entries_told, functions_told}
use Rattle.sp_link_entries_laws.proofs.laws.joined_stand.Goals as goal

pub returns-clause-objects : goal.returns-clause-objects
returns-clause-objects c =
    objects_stand c.matching_laws.ensures.numbered c.matching_laws.ensures.joined c.matching_laws.ensures.there

pub returns-clause-functions : goal.returns-clause-functions
returns-clause-functions c =
    functions_stand c.matching_laws.ensures.numbered c.matching_laws.ensures.joined c.matching_laws.ensures.there

pub returns-clause-entries : goal.returns-clause-entries
returns-clause-entries c = entries_told c.matching_laws.ensures.numbered c.matching_laws.ensures.there

pub returns-clause-function_entries : goal.returns-clause-function_entries
returns-clause-function_entries c = functions_told c.matching_laws.ensures.numbered c.matching_laws.ensures.there

pub returns-clause-apart : goal.returns-clause-apart
returns-clause-apart c = own_objects_apart

pub returns-clause-numbered : goal.returns-clause-numbered
returns-clause-numbered c = objects_numbered

pub returns-clause-functions_numbered : goal.returns-clause-functions_numbered
returns-clause-functions_numbered c = functions_numbered

pub returns-clause-definitions : goal.returns-clause-definitions
returns-clause-definitions c = linked_definitions

pub returns-clause-definitions_there : goal.returns-clause-definitions_there
returns-clause-definitions_there c = definitions_there

pub returns-clause-arrays : goal.returns-clause-arrays
returns-clause-arrays c =
    arrays_complete c.matching_laws.ensures.numbered c.matching_laws.ensures.joined c.matching_laws.ensures.there
