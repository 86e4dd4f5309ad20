-- The lowering of a program: its nodes and edges, its objects in their order, and their regions.
use Rattle.std.specs.Prelude.{◌≡◌, ℕ, ◌+◌, Bool, true, false, List, [], ◌∷◌, ◌++◌, Option, None, length, map, slice_get}
use Rattle.sp_tree.specs.declared.fault.Place.{Place}
use Rattle.sp_types.specs.Programs.{Program, Function}
use Rattle.sp_ir.specs.declared.command.Routine.{Routine}
use Rattle.sp_ir.specs.Commands.{Node, start}
use Rattle.sp_ir.specs.Programs.{Object, Lowered}
use Rattle.sp_base_layouts.specs.Layouts.{pointers_of}
use Rattle.sp_lower_draft.specs.Context.{Context}
use Rattle.sp_lower_draft.specs.Draft.{Draft, Left}
use Rattle.sp_lower_body.specs.Frames.{Initial}
use Rattle.sp_lower_functions.specs.Functions.{Part, result_count, functions_at, lower_functions, temporary_counts}
use Rattle.sp_lower_objects.specs.Codes.{known_number, number_in, codes_from}
use Rattle.sp_lower_objects.specs.Initials.{initials_from}
use Rattle.sp_lower_objects.specs.Objects.{function_names, program_objects, function_objects, local_objects, start_sites, site_object, takes_pointer}
use Rattle.sp_lower_objects.specs.Owners.{owners_of, codes_of, mark_at}
use Rattle.sp_lower_objects.specs.Regions.{all_regions}
use Rattle.sp_lower_objects.specs.Routines.{routines_of}

-- ---- what is known before

-- where the first file begins: its name is the first of all
abbrev pub start_place : Place
start_place = record { name = 0; line = 1; column = 1 }

-- the start node alone
abbrev pub beginning : Draft
beginning = record {
  nodes = record { command = start; place = start_place; function = None } ∷ [];
  edges = [];
  loose = [];
  temporaries = [];
  sites = [];
}

abbrev pub defined : Program → List Function
defined p = functions_at p.functions p.definitions

-- the objects of the units and the functions stand before all that lowering makes
abbrev pub first_local : Program → ℕ
first_local p = length p.objects + length p.functions

-- how many objects of their own the functions from the number k on have, where these are the
-- numbers of temporaries of all
abbrev pub local_count : ℕ → List Function → List ℕ → ℕ
local_count k [] ns = 0
local_count k (g ∷ gs) ns = number_in ns k + result_count g + local_count (k + 1) gs ns

-- with the routines that the functions' names say, and the structs with a leaf of pointer type
abbrev pub context_with : Program → List (Option Routine) → List Bool → ℕ → Context
context_with p routines pointers first_site = record {
  structs = p.structs;
  objects = p.objects;
  functions = p.functions;
  routines = routines;
  pointers = pointers;
  function = 0;
  first_temporary = 0;
  first_site = first_site;
}

abbrev pub program_context : Program → List (List ℕ) → ℕ → Context
program_context p names first_site =
    context_with p (routines_of names p.functions) (pointers_of p.structs) first_site

-- whether a pointer from outside may come to `main`
abbrev pub start_due : Program → List (List ℕ) → Bool
start_due p names = takes_pointer (program_context p names 0) (slice_get p.functions p.main)

abbrev pub site_count : Bool → ℕ
site_count false = 0
site_count true = 1

-- where sites of nodes begin, where a pointer may come to `main` or not, and functions have so many
-- temporaries
abbrev pub site_with : Program → Bool → List ℕ → ℕ
site_with p due counts = first_local p + local_count 0 (defined p) counts + site_count due

abbrev pub first_site : Program → List (List ℕ) → List ℕ → ℕ
first_site p names counts = site_with p (start_due p names) counts

-- ---- the lowering under a numbering

-- the functions' nodes and edges, where they have so many temporaries and sites begin at `site`;
-- `is` are the cells of start values
abbrev pub lowering_at : Program → List (Option Routine) → List Bool → List Initial → ℕ → List ℕ
    → Left (List Part)
lowering_at p routines pointers is site counts =
    lower_functions (context_with p routines pointers site) is 0 (first_local p) (defined p) counts
    beginning

abbrev pub lowering : Program → List (List ℕ) → List ℕ → Left (List Part)
lowering p names counts =
    lowering_at p (routines_of names p.functions) (pointers_of p.structs)
    (initials_from p.structs 0 p.objects) (first_site p names counts) counts

-- the objects of the units, and the functions
abbrev pub declared_with : Program → List (List ℕ) → Context → List Initial → List Object
declared_with p names c is =
    program_objects c names (function_names (defined p)) (owners_of p.objects (defined p)) is 0 0
    p.objects
    ++ function_objects names (codes_of p.functions p.definitions) 0 p.functions

-- temporaries, results and sites
abbrev pub made_with : Program → List (List ℕ) → Bool → Left (List Part) → List Object
made_with p names due w =
    local_objects names 0 (defined p) w.pure
    ++ (start_sites due ++ map site_object w.after.sites)

-- of functions that are lowered, in this context
abbrev pub objects_with : Program → List (List ℕ) → Context → List Initial → Bool → Left (List Part)
    → List Object
objects_with p names c is due w = declared_with p names c is ++ made_with p names due w

abbrev pub lowered_with : Program → List Object → Left (List Part) → Lowered
lowered_with p os w = record {
  structs = p.structs;
  objects = os;
  regions = all_regions p.structs 0 os;
  functions = codes_from (length p.objects) p.definitions w.pure 0 (first_local p) (defined p);
  nodes = w.after.nodes;
  flow = w.after.edges;
  constants = p.constants;
  main = known_number (mark_at (codes_of p.functions p.definitions) p.main);
}

-- how many temporaries each function has by a first pass, in which none were counted
abbrev pub counts_in : Program → List (List ℕ) → List ℕ
counts_in p names = temporary_counts (lowering p names []).pure

abbrev pub context_of_lowered : Program → List (List ℕ) → Context
context_of_lowered p names = program_context p names (first_site p names (counts_in p names))

abbrev pub lowered_program : Program → List (List ℕ) → Left (List Part) → Lowered
lowered_program p names w =
    lowered_with p
    (objects_with p names (context_of_lowered p names) (initials_from p.structs 0 p.objects)
    (start_due p names) w) w

-- ---- the lowering

-- The functions are lowered under the numbering that these counts make, and have so many
-- temporaries themselves.
pub record IsNumbered (p : Program) (names : List (List ℕ)) (w : Left (List Part)) : Type 0 where
  pub functions : w ≡ lowering p names (counts_in p names)
  pub counts : temporary_counts w.pure ≡ counts_in p names

-- the same where these are the routines, the structs with pointers, the cells of start values, and
-- whether a pointer may come to `main`
abbrev pub counts_with : Program → List (Option Routine) → List Bool → List Initial → Bool → List ℕ
counts_with p routines pointers is due =
    temporary_counts (lowering_at p routines pointers is (site_with p due []) []).pure

pub record IsNumberedBy (p : Program) (routines : List (Option Routine)) (pointers : List Bool) (is : List Initial) (due : Bool) (site : ℕ) (w : Left (List Part)) : Type 0 where
  pub first : site ≡ site_with p due (counts_with p routines pointers is due)
  pub functions : w ≡ lowering_at p routines pointers is site (counts_with p routines pointers is due)
  pub counts : temporary_counts w.pure ≡ counts_with p routines pointers is due

pub record IsLowering (p : Program) (names : List (List ℕ)) (l : Lowered) : Type 0 where
  pub functions : Left (List Part)
  pub numbered : IsNumbered p names functions
  pub is : l ≡ lowered_program p names functions
