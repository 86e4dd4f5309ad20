-- The objects of a lowered program, in their order: those of the units, the functions, of each
-- defined function its temporaries and its result, and the sites.
use Rattle.std.specs.Prelude.{ℕ, ◌+◌, Bool, true, false, List, [], ◌∷◌, ◌++◌, Option, Some, None, slice_get, if◌then◌else◌, map}
use Rattle.std.specs.List.{list_any}
use Rattle.sp_types.specs.declared.program.Storage.{Storage}
use Rattle.sp_types.specs.declared.program.Storage.TheVariants as storage
use Rattle.sp_types.specs.Types.{CType, function, result_of}
use Rattle.sp_types.specs.Typed.{Typed}
use Rattle.sp_types.specs.Programs as program
use Rattle.sp_types.specs.Programs.{Function}
use Rattle.sp_ir.specs.declared.program.ObjectKind.{ObjectKind}
use Rattle.sp_ir.specs.declared.program.ObjectKind.TheVariants as kinds
use Rattle.sp_ir.specs.Commands.{Leaf}
use Rattle.sp_ir.specs.Programs.{Object}
use Rattle.sp_lower_draft.specs.Context.{Context, has_pointer, is_void, object_type}
use Rattle.sp_lower_draft.specs.Draft.{Site}
use Rattle.sp_lower_starts.specs.Starts.{start_value}
use Rattle.sp_lower_body.specs.Frames.{Initial, known_initial}
use Rattle.sp_lower_functions.specs.Functions.{Part}
use Rattle.sp_lower_objects.specs.Codes.{part_at, number_in}
use Rattle.sp_lower_objects.specs.Names.{name_at, local_name, string_name, temporary_name, result_name, heap_name, foreign_name}
use Rattle.sp_lower_objects.specs.Owners.{mark_at}

-- one without start values
abbrev pub plain_object : ObjectKind → Option CType → List ℕ → Option ℕ → Object
plain_object kind of name owner = record {
  kind = kind;
  of = of;
  name = name;
  function = owner;
  start = [];
  zero = [];
  code = None;
}

-- ---- objects of the units

abbrev pub kind_of_storage : Storage → ObjectKind
kind_of_storage storage.Static = kinds.Static
kind_of_storage storage.Outside = kinds.Outside
kind_of_storage storage.Text = kinds.Text
kind_of_storage storage.Auto = kinds.Auto
kind_of_storage storage.Formal = kinds.Formal

abbrev pub is_text : Storage → Bool
is_text storage.Text = true
is_text s = false

-- the function that an automatic object is of
abbrev pub owner_of : Storage → Option ℕ → Option ℕ
owner_of storage.Auto owner = owner
owner_of storage.Formal owner = owner
owner_of s owner = None

-- how many strings there are behind an object
abbrev pub texts_behind : Storage → ℕ → ℕ
texts_behind storage.Text texts = texts + 1
texts_behind s texts = texts

-- the start values of a static object: constants, which have no nodes (C90 6.5.7)
abbrev pub start_leaf : Context → ℕ → ℕ × Typed → Leaf
start_leaf c cell e = record {
  number = e.0;
  cell = cell;
  value = start_value c e.1;
}

-- from the value of number n on, with the cells of all
abbrev pub start_leaves : Context → List ℕ → ℕ → List (ℕ × Typed) → List Leaf
start_leaves c cells n [] = []
start_leaves c cells n (e ∷ es) =
    start_leaf c (number_in cells n) e ∷ start_leaves c cells (n + 1) es

abbrev pub start_of : Context → Storage → List ℕ → List (ℕ × Typed) → List Leaf
start_of c storage.Static cells es = start_leaves c cells 0 es
start_of c storage.Text cells es = start_leaves c cells 0 es
start_of c s cells es = []

abbrev pub zero_of : Storage → List ℕ → List ℕ
zero_of storage.Static cells = cells
zero_of storage.Text cells = cells
zero_of s cells = []

-- the numbers of the names of these functions
abbrev pub function_names : List Function → List ℕ
function_names gs = map (λ (g : Function). g.name) gs

abbrev pub name_of_owner : List (List ℕ) → List ℕ → List ℕ → Option ℕ → List ℕ
name_of_owner names functions name None = name
name_of_owner names functions name (Some k) =
    local_name (name_at names (number_in functions k)) name

-- the names of the program, and the numbers of those of its defined functions
abbrev pub object_name : List (List ℕ) → List ℕ → ℕ → Option ℕ → program.Object → List ℕ
object_name names functions texts owner o =
    if is_text o.storage then string_name (texts + 1)
    else name_of_owner names functions (name_at names o.name) owner

abbrev pub program_object : Context → List (List ℕ) → List ℕ → ℕ → Option ℕ → Initial
    → program.Object → Object
program_object c names functions texts owner i o = record {
  kind = kind_of_storage o.storage;
  of = Some o.of;
  name = object_name names functions texts owner o;
  function = owner_of o.storage owner;
  start = start_of c o.storage i.cells o.start;
  zero = zero_of o.storage i.zero;
  code = None;
}

-- those from the number n on, behind so many strings
abbrev pub program_objects : Context → List (List ℕ) → List ℕ → List (Option ℕ) → List Initial
    → ℕ → ℕ → List program.Object → List Object
program_objects c names functions owners is texts n [] = []
program_objects c names functions owners is texts n (o ∷ os) =
    program_object c names functions texts (mark_at owners n) (known_initial (slice_get is n)) o
    ∷ program_objects c names functions owners is (texts_behind o.storage texts) (n + 1) os

-- ---- functions

-- a function with the number of its definition
abbrev pub coded : Object → Option ℕ → Object
coded o code = record o { code = code }

abbrev pub function_object : List (List ℕ) → List (Option ℕ) → ℕ → Function → Object
function_object names codes n f =
    coded (plain_object (kinds.Function n) (Some (function f.of)) (name_at names f.name) None)
    (mark_at codes n)

abbrev pub function_objects : List (List ℕ) → List (Option ℕ) → ℕ → List Function → List Object
function_objects names codes n [] = []
function_objects names codes n (f ∷ fs) =
    function_object names codes n f ∷ function_objects names codes (n + 1) fs

-- ---- what lowering makes

-- from the temporary of number n on
abbrev pub temporary_objects : List ℕ → ℕ → ℕ → List CType → List Object
temporary_objects name k n [] = []
temporary_objects name k n (t ∷ ts) =
    plain_object kinds.Temp (Some t) (temporary_name name n) (Some k)
    ∷ temporary_objects name k (n + 1) ts

abbrev pub result_objects : List ℕ → ℕ → CType → List Object
result_objects name k t =
    if is_void t then []
    else plain_object kinds.Result (Some t) (result_name name) (Some k) ∷ []

abbrev pub own_objects : List ℕ → ℕ → Function → List CType → List Object
own_objects name k g ts = temporary_objects name k 1 ts ++ result_objects name k (result_of g.of)

-- of the functions from the number k on, where these are the parts of all
abbrev pub local_objects : List (List ℕ) → ℕ → List Function → List Part → List Object
local_objects names k [] ps = []
local_objects names k (g ∷ gs) ps =
    own_objects (name_at names g.name) k g (part_at ps k).temporaries
    ++ local_objects names (k + 1) gs ps

-- ---- sites

-- where a pointer from outside points at the start of the program
abbrev pub start_sites : Bool → List Object
start_sites false = []
start_sites true = plain_object (kinds.Foreign 0) None (foreign_name 0) None ∷ []

abbrev pub site_object : Site → Object
site_object s =
    if s.heap then plain_object (kinds.Heap s.node) s.of (heap_name s.node) None
    else plain_object (kinds.Foreign s.node) s.of (foreign_name s.node) None

-- one of these formals has a leaf of pointer type
abbrev pub takes_pointer : Context → Option Function → Bool
takes_pointer c None = false
takes_pointer c (Some g) = list_any (λ n. has_pointer c.pointers (object_type c n)) g.formals
