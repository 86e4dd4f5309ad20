-- Units that agree on their names linked to a program, or the fault that stands (C90 5.1.1.2, 6.1.2.2,
-- 6.7).
use Rattle.std.specs.Prelude.{ℕ, suc, Bool, ◌&&◌, List, [], ◌∷◌, map, Option, Some, None, if◌then◌else◌, is_some, slice_get, unwrap_or, codes, bytes_eq}
use Rattle.sp_tree.specs.declared.fault.FaultKind.TheVariants.{NoMain}
use Rattle.sp_tree.specs.declared.fault.Place.{Place}
use Rattle.sp_types.specs.Programs.{Program}
use Rattle.sp_base_checked.specs.Answers.{Checked, accepted, where_given}
use Rattle.sp_link_renaming.specs.Renaming.{Renaming}
use Rattle.sp_base_checked.specs.Units.{CheckedUnit}
use Rattle.sp_link_structs.specs.Matching.{Matching}
use Rattle.sp_link_conflicts.specs.Declarations.{is_external}
use Rattle.sp_link_entries.specs.Entries.{FunctionEntry, Joined, Numbers, nothing_joined}
use Rattle.sp_link_entries.specs.Units.{units_joined}
use Rattle.sp_link_units.specs.Making.{final_types, renaming, struct_made, object_made, function_made, constants_made}

-- 5.1.2.2.1: the program starts with the external function `main`, where a unit defines it
abbrev pub is_main : List (List ℕ) → FunctionEntry → Bool
is_main names e = is_external e.source.linkage && is_some e.source.body && bytes_eq (unwrap_or (slice_get names e.source.name) []) (codes "main")

-- its number, from this number on
abbrev pub main_from : List (List ℕ) → ℕ → List FunctionEntry → Option ℕ
main_from names k [] = None
main_from names k (e ∷ es) = if is_main names e then Some k else main_from names (suc k) es

abbrev pub renamings : Joined → List Numbers → List Renaming
renamings j ns = map (renaming (final_types j.objects)) ns

-- each tree with the program's numbers and types
abbrev pub program_made : Matching → List CheckedUnit → List Renaming → Joined → ℕ → Program
program_made m xs rs j main = record {
  structs = map (struct_made xs rs) m.structs;
  objects = map (object_made rs) j.objects;
  functions = map (function_made rs) j.functions;
  definitions = j.definitions;
  constants = constants_made j.objects j.constants;
  main = main;
}

-- what is joined as a program; NoMain stands at the place `first`
abbrev pub linked_with : List (List ℕ) → Place → Matching → List CheckedUnit → List Numbers × Joined → Checked Program
linked_with names first m xs y =
    where_given (main_from names 0 y.1.functions) NoMain first (λ main.
    accepted (program_made m xs (renamings y.1 y.0) y.1 main))

-- the units in order, where the matching tells which of their structs are one
abbrev pub linked : List (List ℕ) → Place → Matching → List CheckedUnit → Checked Program
linked names first m xs = linked_with names first m xs (units_joined m.numbers ([], nothing_joined) xs)
