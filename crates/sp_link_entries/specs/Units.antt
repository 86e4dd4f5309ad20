-- How the units of a program are joined, one behind another (C90 6.1.2.2, 6.7).
use Rattle.std.specs.Prelude.{ℕ, List, [], ◌∷◌, length, slice_index_or}
use Rattle.sp_base_checked.specs.Units.{CheckedUnit}
use Rattle.sp_link_entries.specs.Entries.{Joined, Numbers, renumbered, with_texts, one_more}
use Rattle.sp_link_entries.specs.Objects.{owned_by, objects_joined}
use Rattle.sp_link_entries.specs.Functions.{functions_joined}

abbrev pub numbers : List ℕ → List ℕ → List ℕ → Numbers
numbers ss os fs = record { structs = ss; objects = os; functions = fs }

-- behind the functions of a unit, whose objects have these numbers
abbrev pub with_functions : List ℕ → CheckedUnit → List ℕ → List ℕ × Joined → Numbers × Joined
with_functions ss x os y = (numbers ss os y.0, with_texts y.1 (renumbered y.0 x.definitions) x.constants)

-- behind its objects
abbrev pub with_objects : List ℕ → ℕ → CheckedUnit → List ℕ × Joined → Numbers × Joined
with_objects ss u x y = with_functions ss x y.0 (functions_joined ss u ([], y.1) x.functions)

-- the unit of the number `u`: first its objects, then its functions; `ss` has the program's number
-- of each of its structs
abbrev pub unit_joined : List ℕ → ℕ → Joined → CheckedUnit → Numbers × Joined
unit_joined ss u j x = with_objects ss u x (objects_joined x.structs ss (owned_by x.functions x.definitions) u ([], j) x.objects)

-- the next unit, behind the numbers of those before it; `sss` has for each unit the program's
-- number of each of its structs
abbrev pub next_unit : List (List ℕ) → List Numbers × Joined → CheckedUnit → List Numbers × Joined
next_unit sss y x = one_more y.0 (unit_joined (slice_index_or sss (length y.0) []) (length y.0) y.1 x)

abbrev pub units_joined : List (List ℕ) → List Numbers × Joined → List CheckedUnit → List Numbers × Joined
units_joined sss y [] = y
units_joined sss y (x ∷ xs) = units_joined sss (next_unit sss y x) xs
