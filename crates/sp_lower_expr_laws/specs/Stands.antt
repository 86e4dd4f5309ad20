-- What stands in the finished program for what a draft names: its objects, temporaries and sites.
use Rattle.std.specs.Prelude.{◌≡◌, ℕ, ◌+◌, ◌≤◌, Bool, true, false, List, length, Some, slice_get, if◌then◌else◌}
use Rattle.sp_types.specs.Types.{CType, function}
use Rattle.sp_types.specs.Programs as program
use Rattle.sp_ir.specs.declared.program.ObjectKind.{ObjectKind}
use Rattle.sp_ir.specs.declared.program.ObjectKind.TheVariants.{Heap, Foreign}
use Rattle.sp_ir.specs.Programs.{Object}
use Rattle.sp_ir.specs.Formed.{Table, is_local, is_site, HasPointer}
use Rattle.sp_ir.specs.Terrain.{size_of}
use Rattle.sp_lower_draft.specs.Context.{Context, has_pointer, function_object}
use Rattle.sp_lower_draft.specs.Draft.{Draft, Site}
use Rattle.sp_check_typing.specs.Trees.{Scene}

-- the objects of the finished program, over the structs of the context
abbrev pub table : Context → List Object → Table
table c os = record { structs = c.structs; objects = os }

-- what a tree in the function at hand may name, where these objects are visible in it
abbrev pub scene : Context → (ℕ → Bool) → Scene
scene c v = record { structs = c.structs; objects = c.objects; functions = length c.functions; is_visible = v }

-- the object n has this type, is no site, and is of this function where it is local
pub record Stands (os : List Object) (f : ℕ) (n : ℕ) (t : CType) : Type 0 where
  pub object : Object
  pub there : slice_get os n ≡ Some object
  pub of : object.of ≡ Some t
  pub no_site : is_site object.kind ≡ false
  pub own : is_local object.kind ≡ true → object.function ≡ Some f

-- the objects and the functions that a tree may name stand under their numbers, and the table of
-- structs with pointers is right
pub record Fits (c : Context) (os : List Object) (v : ℕ → Bool) : Type 0 where
  pub objects : (n : ℕ) (o : program.Object) → slice_get c.objects n ≡ Some o → v n ≡ true
      → Stands os c.function n o.of
  pub functions : (n : ℕ) (g : program.Function) → slice_get c.functions n ≡ Some g
      → Stands os c.function (function_object c n) (function g.of)
  pub pointers : (t : CType) → 1 ≤ size_of c.structs t
      → HasPointer (table c os) t (has_pointer c.pointers t)

-- the kind of the object of a site
abbrev pub site_kind : Site → ObjectKind
site_kind s = if s.heap then Heap s.node else Foreign s.node

pub record IsSiteObject (os : List Object) (n : ℕ) (s : Site) : Type 0 where
  pub object : Object
  pub there : slice_get os n ≡ Some object
  pub kind : object.kind ≡ site_kind s

-- the temporaries and the sites of a draft stand under their numbers
pub record Holds (c : Context) (os : List Object) (s : Draft) : Type 0 where
  pub temporaries : (i : ℕ) (t : CType) → slice_get s.temporaries i ≡ Some t
      → Stands os c.function (c.first_temporary + i) t
  pub sites : (i : ℕ) (x : Site) → slice_get s.sites i ≡ Some x
      → IsSiteObject os (c.first_site + i) x
