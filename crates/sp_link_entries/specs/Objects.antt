-- How the objects of units become those of their program (C90 6.1.2.2, 6.1.2.6, 6.7).
use Rattle.std.specs.Prelude.{ℕ, Bool, true, false, not, ◌&&◌, ◌||◌, List, [], ◌∷◌, ◌++◌, length, Option, Some, None, if◌then◌else◌, nat_eq, slice_get}
use Rattle.std.specs.List.{list_any}
use Rattle.sp_types.specs.Types.{Struct}
use Rattle.sp_types.specs.Programs.{Object, Function}
use Rattle.sp_types.specs.declared.program.Storage.{Storage}
use Rattle.sp_types.specs.declared.program.Storage.TheVariants.{Auto, Formal}
use Rattle.sp_check_operands.specs.Conversions.{is_open_struct}
use Rattle.sp_check_env.specs.declared.env.Entity.{Entity}
use Rattle.sp_check_env.specs.declared.env.Entity.TheVariants as entities
use Rattle.sp_check_primaries.specs.Composite.{composite}
use Rattle.sp_link_renaming.specs.Renaming.{renamed_type}
use Rattle.sp_link_conflicts.specs.Declarations.{is_external, is_defined}
use Rattle.sp_link_entries.specs.Entries.{ObjectEntry, Joined, linked, with_link, with_object, set_object, one_more}

-- 6.1.2.6: of two declarations of one object the type is the composite, and all else is told by
-- the one that defines it, where the later one doesn't by the earlier; where its struct is incomplete
-- there, by the later that has its members. What defines an object has them (6.7.2).
abbrev pub tells_more : ObjectEntry → ObjectEntry → Bool
tells_more new old = is_defined new.source.storage || old.incomplete && not new.incomplete

abbrev pub object_told : ObjectEntry → ObjectEntry → ObjectEntry
object_told told other = record told { of = composite told.of other.of }

abbrev pub object_composed : ObjectEntry → ObjectEntry → ObjectEntry
object_composed old new = if tells_more new old then object_told new old else object_told old new

-- a declaration of the object of a number; one that isn't there stays so
abbrev pub object_met : Joined → ℕ → ObjectEntry → Option ObjectEntry → Joined
object_met j k new None = j
object_met j k new (Some old) = set_object j k (object_composed old new)

abbrev pub object_again : Joined → ℕ → ObjectEntry → ℕ × Joined
object_again j k new = (k, object_met j k new (slice_get j.objects k))

-- an object of its own
abbrev pub object_apart : Joined → ObjectEntry → ℕ × Joined
object_apart j new = (length j.objects, with_object j new)

-- the first declaration of an external name
abbrev pub object_first : Joined → ObjectEntry → ℕ × Joined
object_first j new = (length j.objects, with_link (with_object j new) new.source.name (entities.Object (length j.objects)))

-- 6.1.2.2: an external name is one object in all units; it is no function's in units that agree on
-- their names
abbrev pub object_linked : Joined → ObjectEntry → Option Entity → ℕ × Joined
object_linked j new None = object_first j new
object_linked j new (Some (entities.Object k)) = object_again j k new
object_linked j new (Some (entities.Function k)) = object_apart j new

-- a declaration that a unit has of an object, with the object's number in the program
abbrev pub object_joined : Joined → ObjectEntry → ℕ × Joined
object_joined j new = if is_external new.source.linkage then object_linked j new (linked j new.source.name) else object_apart j new

-- ---- the objects of a unit

-- the parameters and locals of a function
abbrev pub own_objects : Option Function → List ℕ
own_objects None = []
own_objects (Some f) = f.formals ++ f.locals

-- those of the functions of these numbers
abbrev pub owned_by : List Function → List ℕ → List ℕ
owned_by fs [] = []
owned_by fs (d ∷ ds) = own_objects (slice_get fs d) ++ owned_by fs ds

-- 6.1.2.4: it lives while a function runs
abbrev pub is_passing : Storage → Bool
is_passing Auto = true
is_passing Formal = true
is_passing _ = false

-- 6.5.4.3: a parameter of a prototype ends with it. What passes and is of no function that the unit
-- defines is no object of the program.
abbrev pub is_dropped : List ℕ → ℕ → Storage → Bool
is_dropped ns k s = is_passing s && not (list_any (nat_eq k) ns)

-- `u` is the number of the unit, `ts` are its structs and `ss` has the program's number of each
abbrev pub object_entry : List Struct → List ℕ → ℕ → Object → ObjectEntry
object_entry ts ss u o = record {
  of = renamed_type ss o.of;
  incomplete = is_open_struct ts o.of;
  source = o;
  unit = u;
}

-- an object of the unit, behind the numbers of those before it; one that is dropped has number 0
abbrev pub next_object : List Struct → List ℕ → ℕ → List ℕ × Joined → Bool → Object → List ℕ × Joined
next_object ts ss u y true o = (y.0 ++ 0 ∷ [], y.1)
next_object ts ss u y false o = one_more y.0 (object_joined y.1 (object_entry ts ss u o))

-- `fs` are the objects of the functions that the unit defines
abbrev pub objects_joined : List Struct → List ℕ → List ℕ → ℕ → List ℕ × Joined → List Object → List ℕ × Joined
objects_joined ts ss fs u y [] = y
objects_joined ts ss fs u y (o ∷ os) = objects_joined ts ss fs u (next_object ts ss u y (is_dropped fs (length y.0) o.storage) o) os
