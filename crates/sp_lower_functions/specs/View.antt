-- What contracts see of what is known of a function.
use Rattle.std.specs.Prelude.{map}
use Rattle.sp_types.specs.View.{type_of}
use Rattle.sp_lower_functions.specs.declared.functions.Part.{Part as CodePart}
use Rattle.sp_lower_functions.specs.Functions.{Part}

abbrev pub part_of : CodePart → Part
part_of p = record {
  entry = p.entry;
  exit = p.exit;
  temporaries = map type_of p.temporaries.items;
}
