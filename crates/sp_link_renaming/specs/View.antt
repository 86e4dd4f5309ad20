-- What a renaming of the code stands for.
use Rattle.std.specs.Prelude.{map}
use Rattle.sp_types.specs.View.{type_of}
use Rattle.sp_link_renaming.specs.declared.types.Renaming.{Renaming as CodeRenaming}
use Rattle.sp_link_renaming.specs.Renaming.{Renaming}

abbrev pub renaming_of : CodeRenaming → Renaming
renaming_of r = record {
  structs = r.structs.items;
  objects = r.objects.items;
  functions = r.functions.items;
  types = map type_of r.types.items;
}
