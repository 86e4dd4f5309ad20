-- The tables of a program, made from what its units have together (C90 6.1.2.6, 6.7.2).
use Rattle.std.specs.Prelude.{ℕ, ℤ, pos, Bool, true, false, List, [], ◌∷◌, ◌++◌, map, Option, Some, None, option_map, if◌then◌else◌, slice_get, slice_index_or}
use Rattle.std.specs.List.{list_any}
use Rattle.sp_types.specs.Types.{CType, void, array, Struct}
use Rattle.sp_types.specs.Typed.{Typed}
use Rattle.sp_types.specs.Programs.{Object, Function}
use Rattle.sp_link_renaming.specs.Renaming.{Renaming, renamed_type, renamed, renamed_statement}
use Rattle.sp_base_checked.specs.Units.{CheckedUnit}
use Rattle.sp_link_entries.specs.Entries.{ObjectEntry, FunctionEntry, Numbers, renumbered}

-- ---- types and numbers

abbrev pub lacks_length : CType → Bool
lacks_length (array t None) = true
lacks_length _ = false

-- 6.7.2: an array to which no declaration gives a length has one element
abbrev pub completed : CType → CType
completed (array t None) = array t (Some 1)
completed t = t

-- the type of each object in the program
abbrev pub final_types : List ObjectEntry → List CType
final_types es = map (λ e. completed e.of) es

-- what a unit's trees name, in the program; `ts` are the types of its objects
abbrev pub renaming : List CType → Numbers → Renaming
renaming ts n = record { structs = n.structs; objects = n.objects; functions = n.functions; types = map (λ k. slice_index_or ts k void) n.objects }

abbrev pub no_renaming : Renaming
no_renaming = record { structs = []; objects = []; functions = []; types = [] }

abbrev pub renaming_of_unit : List Renaming → ℕ → Renaming
renaming_of_unit rs u = slice_index_or rs u no_renaming

-- ---- structs

-- members, with their types in the program
abbrev pub renamed_members : List ℕ → List (ℕ × CType) → List (ℕ × CType)
renamed_members ss ms = map (λ m. (m.0, renamed_type ss m.1)) ms

-- a struct of a unit alike
abbrev pub renamed_struct : List ℕ → Struct → Struct
renamed_struct ss s = record s { members = option_map (renamed_members ss) s.members }

-- a struct that isn't there has no members
abbrev pub struct_told : List ℕ → Option Struct → Struct
struct_told ss None = record { tag = None; union = false; members = None; extent = None; level = 0; leaves = 0; cells = 0 }
struct_told ss (Some s) = renamed_struct ss s

abbrev pub structs_of : Option CheckedUnit → List Struct
structs_of None = []
structs_of (Some x) = x.structs

-- the struct of the program that the struct `p.1` of the unit `p.0` stands for
abbrev pub struct_made : List CheckedUnit → List Renaming → ℕ × ℕ → Struct
struct_made xs rs p = struct_told (renaming_of_unit rs p.0).structs (slice_get (structs_of (slice_get xs p.0)) p.1)

-- ---- objects and functions

abbrev pub start_renamed : Renaming → List (ℕ × Typed) → List (ℕ × Typed)
start_renamed r start = map (λ s. (s.0, renamed r s.1)) start

abbrev pub object_renamed : Renaming → ObjectEntry → Object
object_renamed r e = record e.source { of = completed e.of; start = start_renamed r e.source.start }

abbrev pub object_made : List Renaming → ObjectEntry → Object
object_made rs e = object_renamed (renaming_of_unit rs e.unit) e

abbrev pub function_renamed : Renaming → FunctionEntry → Function
function_renamed r e = record e.source { of = e.of; formals = renumbered r.objects e.source.formals; locals = renumbered r.objects e.source.locals; body = option_map (renamed_statement r) e.source.body }

abbrev pub function_made : List Renaming → FunctionEntry → Function
function_made rs e = function_renamed (renaming_of_unit rs e.unit) e

-- ---- constants

-- those of the text, and 1 where an array has it as its length
abbrev pub constants_made : List ObjectEntry → List ℤ → List ℤ
constants_made es zs = if list_any (λ e. lacks_length e.of) es then zs ++ pos 1 ∷ [] else zs
