use Rattle.sp_link_typed_laws.proofs.Linked.{units_follow, statics_follow}
use Rattle.sp_link_typed_laws.proofs.Bodies.{functions_typed}
use Rattle.sp_link_typed_laws.proofs.Known.{starts_are_known}
use Rattle.sp_link_typed_laws.proofs.Measured.{arrays_measured}
use Rattle.sp_link_typed_laws.proofs.Owned.{objects_owned}
use Rattle.sp_link_typed_laws.proofs.Owners.{functions_formed, definitions_apart, owners_are_one, main_defined}
use Rattle.sp_link_typed_laws.proofs.Programs.{programs_typed}
use Rattle.sp_link_typed_laws.proofs.laws.linked_follow.Goals as goal

pub returns-clause-follow : goal.returns-clause-follow
returns-clause-follow c =
    units_follow c.structs_follow.ensures.follow c.matching_laws.ensures.there c.joined_stand.ensures.objects
    c.joined_stand.ensures.functions c.joined_stand.ensures.entries c.joined_stand.ensures.numbered c.joined_stand.ensures.functions_numbered

pub returns-clause-statics : goal.returns-clause-statics
returns-clause-statics c =
    statics_follow c.structs_follow.ensures.follow c.matching_laws.ensures.there c.joined_stand.ensures.objects
    c.joined_stand.ensures.functions c.joined_stand.ensures.entries c.joined_stand.ensures.numbered c.joined_stand.ensures.functions_numbered

pub returns-clause-functions : goal.returns-clause-functions
returns-clause-functions c = functions_formed c.matching_laws.ensures.there c.joined_stand.ensures.function_entries

pub returns-clause-definitions : goal.returns-clause-definitions
returns-clause-definitions c =
    definitions_apart c.joined_stand.ensures.functions c.joined_stand.ensures.definitions c.joined_stand.ensures.functions_numbered

pub returns-clause-owners : goal.returns-clause-owners
returns-clause-owners c =
    owners_are_one c.joined_stand.ensures.functions c.joined_stand.ensures.definitions c.joined_stand.ensures.functions_numbered
    c.joined_stand.ensures.apart c.joined_stand.ensures.numbered

pub returns-clause-typed : goal.returns-clause-typed
returns-clause-typed c =
    functions_typed c.structs_follow.ensures.follow c.matching_laws.ensures.there c.joined_stand.ensures.objects
    c.joined_stand.ensures.functions c.joined_stand.ensures.entries c.joined_stand.ensures.numbered c.joined_stand.ensures.functions_numbered
    c.joined_stand.ensures.apart c.joined_stand.ensures.definitions c.shapes_stay.ensures.leaves

pub returns-clause-starts : goal.returns-clause-starts
returns-clause-starts c =
    starts_are_known c.structs_follow.ensures.follow c.matching_laws.ensures.there c.joined_stand.ensures.objects
    c.joined_stand.ensures.functions c.joined_stand.ensures.entries c.joined_stand.ensures.numbered c.joined_stand.ensures.functions_numbered
    c.shapes_stay.ensures.leaves

pub returns-clause-owned : goal.returns-clause-owned
returns-clause-owned c =
    objects_owned c.structs_follow.ensures.follow c.matching_laws.ensures.there c.joined_stand.ensures.objects
    c.joined_stand.ensures.functions c.joined_stand.ensures.entries c.joined_stand.ensures.numbered c.joined_stand.ensures.functions_numbered c.joined_stand.ensures.definitions_there

pub returns-clause-main : goal.returns-clause-main
returns-clause-main c = main_defined c.joined_stand.ensures.function_entries c.joined_stand.ensures.definitions_there

pub returns-clause-arrays : goal.returns-clause-arrays
returns-clause-arrays c =
    arrays_measured c.structs_follow.ensures.follow c.matching_laws.ensures.there c.matching_laws.ensures.numbered
    c.table_laws.ensures.stay c.structs_follow.ensures.members c.joined_stand.ensures.objects c.joined_stand.ensures.functions
    c.joined_stand.ensures.entries c.joined_stand.ensures.arrays c.joined_stand.ensures.numbered
    c.joined_stand.ensures.functions_numbered

pub returns-clause-programs : goal.returns-clause-programs
returns-clause-programs c =
    programs_typed c.structs_follow.ensures.follow c.matching_laws.ensures.there c.table_laws.ensures.stay
    c.structs_follow.ensures.members c.joined_stand.ensures.objects c.joined_stand.ensures.functions
    c.joined_stand.ensures.entries c.joined_stand.ensures.numbered c.joined_stand.ensures.functions_numbered
    (returns-clause-owned c) (returns-clause-starts c) (returns-clause-arrays c) (returns-clause-functions c)
    (returns-clause-typed c) (returns-clause-definitions c) (returns-clause-owners c) (returns-clause-main c)
