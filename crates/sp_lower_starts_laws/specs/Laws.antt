-- The law of start values: those of the objects of a well-typed program are formed.
use Rattle.std.specs.Prelude.{◌≡◌, ℕ, ◌≤◌, List, [], length, Some, slice_get}
use Rattle.sp_types.specs.Programs as program
use Rattle.sp_types.specs.Programs.{Program}
use Rattle.sp_ir.specs.Programs.{Object}
use Rattle.sp_lower_objects.specs.Initials.{initials_from}
use Rattle.sp_lower_objects.specs.Objects.{kind_of_storage}
use Rattle.sp_lower_objects.specs.Regions.{all_regions, most_regions}
use Rattle.sp_lower.specs.Programs.{program_context}
use Rattle.sp_check_typing.specs.Programs.{IsTypedProgram, sees}
use Rattle.sp_lower_expr_laws.specs.Stands.{Fits}
use Rattle.sp_lower_starts_laws.specs.Starts.{StartsStand}

-- the objects of the program, lowered, come first in the list, with their types and kinds
abbrev pub ObjectsStand : List program.Object → List Object → Type 0
ObjectsStand objects os = (n : ℕ) (o : program.Object) → slice_get objects n ≡ Some o
    → (x : Object) × (slice_get os n ≡ Some x) × (x.of ≡ Some o.of) × (x.kind ≡ kind_of_storage o.storage)

-- Whichever function is lowered, what sees static objects alone finds what it names in the program.
-- No region is past the limit, so that each object has its cells.
abbrev pub StartsHold : Type 0
StartsHold = (p : Program) (names : List (List ℕ)) (site : ℕ) (os : List Object) → IsTypedProgram p → ObjectsStand p.objects os
    → length (all_regions p.structs 0 os) ≤ most_regions
    → ((k : ℕ) → Fits (record (program_context p names site) { function = k }) os (sees p.objects []))
    → StartsStand p (program_context p names site) os (all_regions p.structs 0 os) (initials_from p.structs 0 p.objects)
