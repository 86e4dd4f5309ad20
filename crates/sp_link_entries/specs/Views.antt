-- What the joining of the code stands for.
use Rattle.std.specs.Prelude.{map}
use Rattle.sp_types.specs.Programs.{object_of, function_of}
use Rattle.sp_types.specs.View.{type_of, shared_signature_of}
use Rattle.sp_link_entries.specs.Entries.{ObjectEntry, FunctionEntry, Joined, Numbers}
use Rattle.sp_link_entries.specs.declared.entries.ObjectEntry.{ObjectEntry as CodeObject}
use Rattle.sp_link_entries.specs.declared.entries.FunctionEntry.{FunctionEntry as CodeFunction}
use Rattle.sp_link_entries.specs.declared.entries.UnitNumbers.{UnitNumbers}
use Rattle.sp_link_entries.specs.declared.joined.Joined.{Joined as CodeJoined}

abbrev pub object_entry_of : CodeObject → ObjectEntry
object_entry_of e = record { of = type_of e.of; incomplete = e.incomplete; source = object_of e.source.now; unit = e.unit }

abbrev pub function_entry_of : CodeFunction → FunctionEntry
function_entry_of e = record { of = shared_signature_of e.of; source = function_of e.source.now; unit = e.unit }

abbrev pub numbers_of : UnitNumbers → Numbers
numbers_of n = record { structs = n.structs.items; objects = n.objects.items; functions = n.functions.items }

unfoldable pub joined_of : CodeJoined → Joined
joined_of j = record { objects = map object_entry_of j.objects.items; functions = map function_entry_of j.functions.items; links = j.links.entries; definitions = j.definitions.items; constants = j.constants.items }
