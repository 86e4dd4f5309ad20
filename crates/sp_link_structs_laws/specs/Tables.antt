-- The table of structs of a program (C90 6.1.2.6, 6.5.2.1).
use Rattle.std.specs.Prelude.{◌≡◌, ℕ, List, [], map, Some, slice_get, slice_index_or}
use Rattle.sp_tree.specs.declared.fault.Place.{Place}
use Rattle.sp_types.specs.Types.{Struct}
use Rattle.sp_types.specs.Programs.{Program}
use Rattle.sp_types.specs.Structs.{IsTable}
use Rattle.sp_link_structs.specs.Matching.{Matching}
use Rattle.sp_link_agreement.specs.Depths.{struct_at}
use Rattle.sp_link_structs.specs.Matched.{AreMatched}
use Rattle.sp_base_checked.specs.Answers.{accepted}
use Rattle.sp_base_checked.specs.Units.{CheckedUnit}
use Rattle.sp_link_conflicts.specs.Conflicts.{tables_of}
use Rattle.sp_link_units.specs.Making.{struct_told}
use Rattle.sp_link_units.specs.Links.{Links}

-- a struct of a unit as one of the program
abbrev pub program_struct : List (List Struct) → Matching → ℕ × ℕ → Struct
program_struct us m p = struct_told (slice_index_or m.numbers p.0 []) (struct_at us p)

abbrev pub program_structs : List (List Struct) → Matching → List Struct
program_structs us m = map (program_struct us m) m.structs

abbrev pub AreTables : List (List Struct) → Type 0
AreTables us = (u : ℕ) (ss : List Struct) → slice_get us u ≡ Some ss → IsTable ss

-- where those of each unit form a table, those of the program do
abbrev pub TablesStay : Type 0
TablesStay = (us : List (List Struct)) (m : Matching) → AreMatched us m → AreTables us → IsTable (program_structs us m)

-- So the structs of a linked program form a table.
abbrev pub LinkedTables : Type 0
LinkedTables = (names : List (List ℕ)) (first : Place) (xs : List CheckedUnit) (p : Program)
    → Links names first xs (accepted p) → AreTables (tables_of xs) → IsTable p.structs
