-- What the declarations of the code stand for.
use Rattle.std.specs.Borrow.{Bor}
use Rattle.sp_types.specs.View.{type_of}
use Rattle.sp_link_conflicts.specs.Declarations.{Declaration}
use Rattle.sp_link_conflicts.specs.declared.declarations.Declaration.{Declaration as CodeDeclaration}

abbrev pub declaration_of : CodeDeclaration → Declaration
declaration_of d = record { unit = d.unit; name = d.name; of = type_of d.of; defines = d.defines; place = d.place }

-- behind a reference
abbrev pub seen_declaration : Bor CodeDeclaration → Declaration
seen_declaration d = declaration_of d.now
