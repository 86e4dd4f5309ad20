-- How the functions of units become those of their program (C90 6.1.2.2, 6.1.2.6, 6.7).
use Rattle.std.specs.Prelude.{ℕ, List, [], ◌∷◌, length, Option, Some, None, if◌then◌else◌, is_some, slice_get}
use Rattle.sp_types.specs.Programs.{Function}
use Rattle.sp_check_env.specs.declared.env.Entity.{Entity}
use Rattle.sp_check_env.specs.declared.env.Entity.TheVariants as entities
use Rattle.sp_check_primaries.specs.Composite.{composite_signature}
use Rattle.sp_link_renaming.specs.Renaming.{renamed_signature}
use Rattle.sp_link_conflicts.specs.Declarations.{is_external}
use Rattle.sp_link_entries.specs.Entries.{FunctionEntry, Joined, linked, with_link, with_function, set_function, one_more}

-- 6.1.2.6: of two declarations of one function the type is the composite, and all else is told by
-- the one that defines it, where the later one doesn't by the earlier
abbrev pub function_told : FunctionEntry → FunctionEntry → FunctionEntry
function_told told other = record told { of = composite_signature told.of other.of }

abbrev pub function_composed : FunctionEntry → FunctionEntry → FunctionEntry
function_composed old new = if is_some new.source.body then function_told new old else function_told old new

-- a declaration of the function of a number; one that isn't there stays so
abbrev pub function_met : Joined → ℕ → FunctionEntry → Option FunctionEntry → Joined
function_met j k new None = j
function_met j k new (Some old) = set_function j k (function_composed old new)

abbrev pub function_again : Joined → ℕ → FunctionEntry → ℕ × Joined
function_again j k new = (k, function_met j k new (slice_get j.functions k))

-- a function of its own
abbrev pub function_apart : Joined → FunctionEntry → ℕ × Joined
function_apart j new = (length j.functions, with_function j new)

-- the first declaration of an external name
abbrev pub function_first : Joined → FunctionEntry → ℕ × Joined
function_first j new = (length j.functions, with_link (with_function j new) new.source.name (entities.Function (length j.functions)))

-- 6.1.2.2: an external name is one function in all units; it is no object's in units that agree on
-- their names
abbrev pub function_linked : Joined → FunctionEntry → Option Entity → ℕ × Joined
function_linked j new None = function_first j new
function_linked j new (Some (entities.Function k)) = function_again j k new
function_linked j new (Some (entities.Object k)) = function_apart j new

-- a declaration that a unit has of a function, with the function's number in the program
abbrev pub function_joined : Joined → FunctionEntry → ℕ × Joined
function_joined j new = if is_external new.source.linkage then function_linked j new (linked j new.source.name) else function_apart j new

-- ---- the functions of a unit

-- `u` is the number of the unit, `ss` has the program's number of each of its structs
abbrev pub function_entry : List ℕ → ℕ → Function → FunctionEntry
function_entry ss u f = record { of = renamed_signature ss f.of; source = f; unit = u }

-- a function of the unit, behind the numbers of those before it
abbrev pub next_function : List ℕ → ℕ → List ℕ × Joined → Function → List ℕ × Joined
next_function ss u y f = one_more y.0 (function_joined y.1 (function_entry ss u f))

abbrev pub functions_joined : List ℕ → ℕ → List ℕ × Joined → List Function → List ℕ × Joined
functions_joined ss u y [] = y
functions_joined ss u y (f ∷ fs) = functions_joined ss u (next_function ss u y f) fs
