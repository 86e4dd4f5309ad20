-- What lowering knows of the program, and of the function at hand.
use Rattle.std.specs.Prelude.{ℕ, ◌+◌, ◌==◌, Bool, true, false, List, [], ◌∷◌, Option, Some, None, is_none, length, slice_get, if◌then◌else◌}
use Rattle.sp_types.specs.declared.ctype.IntKind.{IntKind}
use Rattle.sp_types.specs.declared.ctype.IntKind.TheVariants.{Int}
use Rattle.sp_types.specs.Types.{CType, void, integer, pointer, array, structure, function, Struct}
use Rattle.sp_types.specs.Programs.{Object, Function}
use Rattle.sp_ir.specs.declared.command.Routine.{Routine}
use Rattle.sp_ir.specs.Terrain.{size_of}

pub record Context : Type 0 where
  pub structs : List Struct
  pub objects : List Object
  pub functions : List Function
  -- of each function the routine of the library that its name says
  pub routines : List (Option Routine)
  -- of each struct whether it has a leaf of pointer type
  pub pointers : List Bool
  -- the function that is lowered, the number of its first temporary, and that of the first site
  pub function : ℕ
  pub first_temporary : ℕ
  pub first_site : ℕ

-- ---- types

abbrev pub is_void : CType → Bool
is_void void = true
is_void t = false

abbrev pub kind_of : CType → IntKind
kind_of (integer k) = k
kind_of t = Int

-- the type that a pointer points to
abbrev pub pointee : CType → CType
pointee (pointer t) = t
pointee t = void

-- what a pointer of this type points to, in bytes; 0 without a layout
abbrev pub pointee_size : Context → CType → ℕ
pointee_size c t = size_of c.structs (pointee t)

-- whether it has a leaf of pointer type
abbrev pub flag_at : Option Bool → Bool
flag_at None = false
flag_at (Some b) = b

abbrev pub has_pointer : List Bool → CType → Bool
has_pointer flags (pointer t) = true
has_pointer flags (array t n) = has_pointer flags t
has_pointer flags (structure k) = flag_at (slice_get flags k)
has_pointer flags t = false

-- ---- members

abbrev pub member_named : ℕ → ℕ → List (ℕ × CType) → ℕ × CType
member_named name k [] = (k, void)
member_named name k (m ∷ ms) = if m.0 == name then (k, m.1) else member_named name (k + 1) ms

abbrev pub known_members : Option (List (ℕ × CType)) → List (ℕ × CType)
known_members None = []
known_members (Some ms) = ms

abbrev pub members_of : Option Struct → List (ℕ × CType)
members_of None = []
members_of (Some s) = known_members s.members

-- the number and the type of the member of this name (C90 6.3.2.3)
abbrev pub member_of : Context → CType → ℕ → ℕ × CType
member_of c (structure n) name = member_named name 0 (members_of (slice_get c.structs n))
member_of c t name = (0, void)

-- ---- objects and functions

abbrev pub type_of_object : Option Object → CType
type_of_object None = void
type_of_object (Some o) = o.of

abbrev pub object_type : Context → ℕ → CType
object_type c n = type_of_object (slice_get c.objects n)

abbrev pub type_of_function : Option Function → CType
type_of_function None = void
type_of_function (Some f) = function f.of

abbrev pub function_type : Context → ℕ → CType
function_type c n = type_of_function (slice_get c.functions n)

-- the object that a function is: the functions stand behind the objects of the units
abbrev pub function_object : Context → ℕ → ℕ
function_object c n = length c.objects + n

abbrev pub lacks_body : Option Function → Bool
lacks_body None = false
lacks_body (Some f) = is_none f.body

-- declared, and defined nowhere
abbrev pub is_undefined : Context → ℕ → Bool
is_undefined c n = lacks_body (slice_get c.functions n)

abbrev pub routine_in : Option (Option Routine) → Option Routine
routine_in None = None
routine_in (Some r) = r

abbrev pub routine_named : Context → ℕ → Option Routine
routine_named c n = routine_in (slice_get c.routines n)
