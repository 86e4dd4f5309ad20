-- Which lowered programs are formed: all that they name is there, and their parts fit together.
use Rattle.std.specs.Prelude.{◌≡◌, ◌≢◌, ℕ, ◌+◌, ◌-◌, ◌*◌, ◌^◌, ◌≤◌, ◌<◌, ◌||◌, ◌&&◌, Bool, true, false, List, [], ◌∷◌, ◌++◌, Option, Some, None, slice_get, length, All, Contains, ◌↔◌, ◌⊎◌, ℤ, pos, neg_ℤ, ◌≤ℤ◌, ⊤}
use Rattle.sp_tree.specs.declared.token.Punct.{Punct}
use Rattle.sp_tree.specs.declared.token.Punct.TheVariants.{Star, Plus, Minus, Tilde, Slash, Percent, ShiftLeft, ShiftRight, Less, LessEqual, Greater, GreaterEqual, EqualEqual, NotEqual, Ampersand, Caret, Bar}
use Rattle.sp_types.specs.declared.ctype.IntKind.{IntKind}
use Rattle.sp_types.specs.declared.ctype.IntKind.TheVariants.{Char, SChar, UChar, Short, UShort, Int, UInt, Long, ULong}
use Rattle.sp_types.specs.Types.{CType, integer, floating, pointer, array, structure, function, Signature, Struct}
use Rattle.sp_types.specs.Layout.{integer_size}
use Rattle.sp_types.specs.Structs.{IsTable, IsFormed as IsFormedType}
use Rattle.sp_ir.specs.declared.command.Routine.{Routine}
use Rattle.sp_ir.specs.declared.command.Routine.TheVariants.{Malloc, Calloc, Realloc, Free, Exit, Abort, Memset, Memcpy, Memmove, Strlen, Strcpy, Strncpy, Strcat}
use Rattle.sp_ir.specs.declared.program.ObjectKind.{ObjectKind}
use Rattle.sp_ir.specs.declared.program.ObjectKind.TheVariants.{Static, Text, Auto, Formal, Temp, Result, Function, Heap, Foreign}
use Rattle.sp_ir.specs.Commands.{Expression, number, address, decay, read, convert, unary, binary, compare, move, distance, Lvalue, direct, through, field, lvalue_type, expression_type, Leaf, Command, start, entry, exit, skip, assign, copy, init, assume, eval, call, return, library, outside, Node}
use Rattle.sp_ir.specs.Regions.{Region, number_at}
use Rattle.sp_ir.specs.Shapes.{Shape, Shapes, scalar, floating_shape, union_of, array_of, struct_of, no_shapes, next_shape, HasShape, region, regions, leaf_count, leaf_cell}
use Rattle.sp_ir.specs.Terrain.{size_of}
use Rattle.sp_ir.specs.Programs.{Object, Code, Lowered}

-- What stands around an expression: the structs and the objects.
pub record Table : Type 0 where
  pub structs : List Struct
  pub objects : List Object

abbrev pub table_of : Lowered → Table
table_of p = record { structs = p.structs; objects = p.objects }

-- ---- types

abbrev pub is_integer : CType → Bool
is_integer (integer k) = true
is_integer t = false

abbrev pub is_pointer : CType → Bool
is_pointer (pointer t) = true
is_pointer t = false

abbrev pub is_struct : CType → Bool
is_struct (structure n) = true
is_struct t = false

abbrev pub is_array : CType → Bool
is_array (array t n) = true
is_array t = false

abbrev pub is_floating : CType → Bool
is_floating (floating k) = true
is_floating t = false

abbrev pub is_scalar : CType → Bool
is_scalar t = is_integer t || is_pointer t

-- both of integer type, or both of pointer type
abbrev pub same_sort : CType → CType → Bool
same_sort a b = (is_integer a && is_integer b) || (is_pointer a && is_pointer b)

-- ---- numbers (C90 6.1.2.5)

abbrev pub is_signed : IntKind → Bool
is_signed UChar = false
is_signed UShort = false
is_signed UInt = false
is_signed ULong = false
is_signed _ = true

abbrev pub bits : IntKind → ℕ
bits k = 8 * integer_size k

abbrev pub InSigned : ℕ → ℤ → Type 0
InSigned width z = (neg_ℤ (pos (2 ^ (width - 1))) ≤ℤ z) × (z ≤ℤ pos (2 ^ (width - 1) - 1))

abbrev pub InUnsigned : ℕ → ℤ → Type 0
InUnsigned width z = (pos 0 ≤ℤ z) × (z ≤ℤ pos (2 ^ width - 1))

-- the number is one of the type
abbrev pub InKind : IntKind → ℤ → Type 0
InKind UChar z = InUnsigned 8 z
InKind UShort z = InUnsigned 16 z
InKind UInt z = InUnsigned 32 z
InKind ULong z = InUnsigned 64 z
InKind Char z = InSigned 8 z
InKind SChar z = InSigned 8 z
InKind Short z = InSigned 16 z
InKind Int z = InSigned 32 z
InKind Long z = InSigned 64 z

-- ---- operators

abbrev pub is_relation : Punct → Bool
is_relation Less = true
is_relation LessEqual = true
is_relation Greater = true
is_relation GreaterEqual = true
is_relation EqualEqual = true
is_relation NotEqual = true
is_relation p = false

abbrev pub is_sign : Punct → Bool
is_sign Plus = true
is_sign Minus = true
is_sign Tilde = true
is_sign p = false

abbrev pub is_operator : Punct → Bool
is_operator Plus = true
is_operator Minus = true
is_operator Star = true
is_operator Slash = true
is_operator Percent = true
is_operator ShiftLeft = true
is_operator ShiftRight = true
is_operator Ampersand = true
is_operator Bar = true
is_operator Caret = true
is_operator p = false

-- ---- objects

abbrev pub is_local : ObjectKind → Bool
is_local Auto = true
is_local Formal = true
is_local Temp = true
is_local Result = true
is_local k = false

-- what a library or an outside function gives: it has no name, so nothing names it directly
abbrev pub is_site : ObjectKind → Bool
is_site (Heap n) = true
is_site (Foreign n) = true
is_site k = false

-- A direct lvalue names an object that is no site, by the object's own type, which isn't a floating
-- one, and a local one in its own function alone.
pub record IsDirect (p : Table) (f : Option ℕ) (n : ℕ) (t : CType) : Type 0 where
  pub object : Object
  pub there : slice_get p.objects n ≡ Some object
  pub of : object.of ≡ Some t
  pub no_site : is_site object.kind ≡ false
  pub own : is_local object.kind ≡ true → object.function ≡ f
  pub no_floating : is_floating t ≡ false

-- The member of this number of a struct or union.
pub record IsMember (p : Table) (of : CType) (k : ℕ) (t : CType) : Type 0 where
  pub struct_number : ℕ
  pub struct : Struct
  pub members : List (ℕ × CType)
  pub name : ℕ
  pub named : of ≡ structure struct_number
  pub there : slice_get p.structs struct_number ≡ Some struct
  pub complete : struct.members ≡ Some members
  pub member : slice_get members k ≡ Some (name, t)

-- ---- expressions and lvalues of a node of the function f

-- Operands have integer or pointer type, so a struct's value stands alone: unused, as an argument,
-- or copied. Nothing of floating type is named, and an access has a layout.
abbrev mutual
  pub IsExpression : Table → Option ℕ → Expression → Type 0
  IsExpression p f (number z k) = InKind k z
  IsExpression p f (address l) = IsLvalue p f l
  IsExpression p f (decay l) = IsLvalue p f l × (is_array (lvalue_type l) ≡ true)
  IsExpression p f (read l) = IsLvalue p f l
      × ((is_scalar (lvalue_type l) || is_struct (lvalue_type l)) ≡ true)
      × (1 ≤ size_of p.structs (lvalue_type l))
  IsExpression p f (convert t e) = IsExpression p f e
      × (is_scalar (expression_type e) ≡ true) × (is_scalar t ≡ true) × IsFormedType p.structs t
  IsExpression p f (unary op k e) = IsExpression p f e
      × (is_integer (expression_type e) ≡ true) × (is_sign op ≡ true)
  IsExpression p f (binary op k a b at) = IsExpression p f a × IsExpression p f b
      × (is_integer (expression_type a) ≡ true) × (is_integer (expression_type b) ≡ true)
      × (is_operator op ≡ true)
  IsExpression p f (compare op a b) = IsExpression p f a × IsExpression p f b
      × (is_scalar (expression_type a) ≡ true) × (is_scalar (expression_type b) ≡ true)
      × (is_relation op ≡ true)
  IsExpression p f (move a b back size) = IsExpression p f a × IsExpression p f b
      × (is_pointer (expression_type a) ≡ true) × (is_integer (expression_type b) ≡ true)
      × (1 ≤ size) × (size ≤ 2 ^ 40)
  IsExpression p f (distance a b size) = IsExpression p f a × IsExpression p f b
      × (is_pointer (expression_type a) ≡ true) × (is_pointer (expression_type b) ≡ true)
      × (1 ≤ size) × (size ≤ 2 ^ 40)

  pub IsLvalue : Table → Option ℕ → Lvalue → Type 0
  IsLvalue p f (direct n t) = IsDirect p f n t
  IsLvalue p f (through e t at) = IsExpression p f e × (is_pointer (expression_type e) ≡ true)
      × (1 ≤ size_of p.structs t) × (is_floating t ≡ false) × IsFormedType p.structs t
  IsLvalue p f (field l k t) = IsLvalue p f l × IsMember p (lvalue_type l) k t
      × (is_floating t ≡ false)

-- a value of integer or pointer type
abbrev pub IsScalar : Table → Option ℕ → Expression → Type 0
IsScalar p f e = IsExpression p f e × (is_scalar (expression_type e) ≡ true)

-- where a value of integer or pointer type, or a struct, may go
abbrev pub IsTarget : Table → Option ℕ → Lvalue → Type 0
IsTarget p f l = IsLvalue p f l
    × ((is_scalar (lvalue_type l) || is_struct (lvalue_type l)) ≡ true)
    × (1 ≤ size_of p.structs (lvalue_type l))

-- ---- reads

-- whether a cell is read: by the value itself, or for the pointer or the index of an lvalue
abbrev mutual
  pub reads : Expression → Bool
  reads (number z k) = false
  reads (address l) = lvalue_reads l
  reads (decay l) = lvalue_reads l
  reads (read l) = true
  reads (convert t e) = reads e
  reads (unary op k e) = reads e
  reads (binary op k a b at) = reads a || reads b
  reads (compare op a b) = reads a || reads b
  reads (move a b back size) = reads a || reads b
  reads (distance a b size) = reads a || reads b

  pub lvalue_reads : Lvalue → Bool
  lvalue_reads (direct n t) = false
  lvalue_reads (through e t at) = reads e
  lvalue_reads (field l k t) = lvalue_reads l

-- ---- leaves

abbrev pub shape_of : Table → CType → Shape → Type 0
shape_of p t s = HasShape p.structs (size_of p.structs) t s

-- a leaf of an object of this shape whose root is this region has this cell
abbrev pub LeafAt : Shape → ℕ → ℕ → ℕ → Type 0
LeafAt s root k cell = (d : ℕ) × (leaf_cell s k ≡ Some d) × (cell ≡ root + d)

-- a cell of integer type takes integers, one of pointer type pointers, and bytes take both
abbrev pub FitsCell : Option CType → CType → Type 0
FitsCell None t = is_scalar t ≡ true
FitsCell (Some of) t = same_sort of t ≡ true

pub record IsLeaf (p : Table) (rs : List Region) (f : Option ℕ) (s : Shape) (root : ℕ) (l : Leaf) : Type 0 where
  pub formed : IsExpression p f l.value
  pub low : l.number < leaf_count s
  pub at : LeafAt s root l.number l.cell
  pub region : Region
  pub there : slice_get rs l.cell ≡ Some region
  pub fits : FitsCell region.element (expression_type l.value)

-- a leaf of this number has a value
abbrev pub HasValue : List Leaf → ℕ → Type 0
HasValue ls k = (i : ℕ) × (l : Leaf) × (slice_get ls i ≡ Some l) × (l.number ≡ k)

-- the start values of an object of this type: leaves with their values, and just the cells with a
-- leaf that has none
pub record IsStart (p : Table) (rs : List Region) (f : Option ℕ) (n : ℕ) (t : CType) (values : List Leaf) (zeros : List ℕ) : Type 0 where
  pub shape : Shape
  pub has_shape : shape_of p t shape
  pub root : ℕ
  pub rooted : number_at rs n [] ≡ Some root
  pub leaves : All (IsLeaf p rs f shape root) values
  pub others : (c : ℕ) → Contains zeros c ↔ ((k : ℕ) × (k < leaf_count shape)
      × LeafAt shape root k c × (HasValue values k → ⊥))

-- ---- commands

-- how many arguments a routine takes
abbrev pub argument_count : Routine → ℕ
argument_count Malloc = 1
argument_count Calloc = 2
argument_count Realloc = 2
argument_count Free = 1
argument_count Exit = 1
argument_count Abort = 0
argument_count Memset = 3
argument_count Memcpy = 3
argument_count Memmove = 3
argument_count Strlen = 1
argument_count Strcpy = 2
argument_count Strncpy = 3
argument_count Strcat = 2

abbrev pub allocates : Routine → Bool
allocates Malloc = true
allocates Calloc = true
allocates Realloc = true
allocates r = false

-- whether a leaf is of pointer type
abbrev mutual
  pub points : Shape → Bool
  points (scalar t size) = is_pointer t
  points (floating_shape t size) = false
  points (union_of size first) = points first
  points (array_of t size inner n) = points inner
  points (struct_of t size ms) = members_point ms

  pub members_point : Shapes → Bool
  members_point no_shapes = false
  members_point (next_shape m ms) = points m || members_point ms

abbrev pub HasPointer : Table → CType → Bool → Type 0
HasPointer p t b = (s : Shape) × shape_of p t s × (points s ≡ b)

-- there is a site of this kind exactly where one is due
abbrev pub IsSite : Table → ObjectKind → Bool → Option ℕ → Type 0
IsSite p kind due None = due ≡ false
IsSite p kind due (Some n) = (due ≡ true)
    × ((o : Object) × (slice_get p.objects n ≡ Some o) × (o.kind ≡ kind))

abbrev pub IsResult : Table → Option ℕ → Option Lvalue → Type 0
IsResult p f None = ⊤
IsResult p f (Some l) = IsTarget p f l

abbrev pub IsScalarResult : Table → Option ℕ → Option Lvalue → Type 0
IsScalarResult p f None = ⊤
IsScalarResult p f (Some l) = IsLvalue p f l × (is_scalar (lvalue_type l) ≡ true)

-- the site of a call of an outside function: due where its result has a leaf of pointer type
abbrev pub IsForeign : Table → Option ℕ → ℕ → Option Lvalue → Option ℕ → Type 0
IsForeign p f n None site = site ≡ None
IsForeign p f n (Some l) site = IsTarget p f l
    × ((b : Bool) × HasPointer p (lvalue_type l) b × IsSite p (Foreign n) b site)

-- the command of the node n of the function f
abbrev pub IsCommand : Table → List Region → ℕ → Option ℕ → Command → Type 0
IsCommand p rs n f start = (n ≡ 0) × (f ≡ None)
IsCommand p rs n f (entry g) = f ≡ Some g
IsCommand p rs n f (exit g) = f ≡ Some g
IsCommand p rs n f skip = ⊤
IsCommand p rs n f (assign to e) = IsLvalue p f to × IsExpression p f e
    × (same_sort (lvalue_type to) (expression_type e) ≡ true)
IsCommand p rs n f (copy to from) = IsLvalue p f to × IsLvalue p f from
    × (is_struct (lvalue_type to) ≡ true) × (lvalue_type to ≡ lvalue_type from)
    × (1 ≤ size_of p.structs (lvalue_type to))
IsCommand p rs n f (init o values others) = (t : CType) × IsDirect p f o t
    × ((object : Object) × (slice_get p.objects o ≡ Some object) × (object.kind ≡ Auto))
    × ((is_array t || is_struct t) ≡ true) × IsStart p rs f o t values others
IsCommand p rs n f (assume a op b) = IsScalar p f a × IsScalar p f b × (is_relation op ≡ true)
IsCommand p rs n f (eval e) = IsExpression p f e
IsCommand p rs n f (call callee args) = IsExpression p f callee
    × (is_pointer (expression_type callee) ≡ true) × All (IsExpression p f) args
IsCommand p rs n f (return c to) = IsResult p f to
IsCommand p rs n f (library which to args site) = IsScalarResult p f to
    × All (IsScalar p f) args × (length args ≡ argument_count which)
    × IsSite p (Heap n) (allocates which) site
IsCommand p rs n f (outside to args site) = All (IsExpression p f) args
    × IsForeign p f n to site

-- ---- how commands fit together

-- an edge joins two nodes of one function; none begins at a call or an exit, none ends at an entry
-- or a return
abbrev pub may_begin : Command → Bool
may_begin (call f args) = false
may_begin (exit g) = false
may_begin start = false
may_begin c = true

abbrev pub may_end : Command → Bool
may_end (entry g) = false
may_end (return c to) = false
may_end start = false
may_end c = true

pub record IsEdge (nodes : List Node) (from to : ℕ) : Type 0 where
  pub first : Node
  pub second : Node
  pub begins : slice_get nodes from ≡ Some first
  pub ends : slice_get nodes to ≡ Some second
  pub one_function : first.function ≡ second.function
  pub leaves : may_begin first.command ≡ true
  pub enters : may_end second.command ≡ true

-- the node n returns from the call c, a node of the same function
pub record Returns (nodes : List Node) (c n : ℕ) : Type 0 where
  pub caller : Node
  pub callee : Expression
  pub args : List Expression
  pub calls : slice_get nodes c ≡ Some caller
  pub is_call : caller.command ≡ call callee args
  pub back : Node
  pub to : Option Lvalue
  pub returns : slice_get nodes n ≡ Some back
  pub is_return : back.command ≡ return c to
  pub one_function : caller.function ≡ back.function

-- the object n is one of this kind of the function k
pub record IsOwned (objects : List Object) (k : ℕ) (kind : ObjectKind) (n : ℕ) : Type 0 where
  pub object : Object
  pub there : slice_get objects n ≡ Some object
  pub is : object.kind ≡ kind
  pub of : object.function ≡ Some k

abbrev pub IsMaybeOwned : List Object → ℕ → ObjectKind → Option ℕ → Type 0
IsMaybeOwned objects k kind None = ⊤
IsMaybeOwned objects k kind (Some n) = IsOwned objects k kind n

-- the function k: its only entry and exit, and what is its own
pub record IsCode (p : Lowered) (k : ℕ) (c : Code) : Type 0 where
  pub entry : (n : ℕ) → ((node : Node) × (slice_get p.nodes n ≡ Some node)
      × (node.command ≡ entry k)) ↔ (n ≡ c.entry)
  pub exit : (n : ℕ) → ((node : Node) × (slice_get p.nodes n ≡ Some node)
      × (node.command ≡ exit k)) ↔ (n ≡ c.exit)
  pub formals : All (IsOwned p.objects k Formal) c.formals
  pub distinct : (i j n : ℕ) → slice_get c.formals i ≡ Some n → slice_get c.formals j ≡ Some n
      → i ≡ j
  pub result : IsMaybeOwned p.objects k Result c.result

-- ---- objects and their regions

-- a site has no fixed count
abbrev pub root_count : ObjectKind → Option ℕ
root_count (Heap n) = None
root_count (Foreign n) = None
root_count k = Some 1

-- The regions of the object n: a function is one region, of size 1. What has no type or no layout
-- is kept as bytes.
pub data HasRegions (p : Table) (n : ℕ) (o : Object) : List Region → Type 0 where
  of_function : {k : ℕ} {s : Signature} → o.kind ≡ Function k → o.of ≡ Some (function s)
      → HasRegions p n o (region n [] (Some (function s)) 1 (Some 1) ∷ [])
  of_no_type : o.of ≡ None → HasRegions p n o (region n [] None 1 None ∷ [])
  of_no_layout : {t : CType} → ((k : ℕ) → o.kind ≢ Function k) → o.of ≡ Some t
      → size_of p.structs t ≡ 0 → HasRegions p n o (region n [] None 1 (Some 0) ∷ [])
  of_shape : {t : CType} {s : Shape} → ((k : ℕ) → o.kind ≢ Function k) → o.of ≡ Some t
      → 1 ≤ size_of p.structs t → shape_of p t s
      → HasRegions p n o (regions n [] (root_count o.kind) s)

-- those of the objects from the number n on
pub data HaveRegions (p : Table) : ℕ → List Object → List Region → Type 0 where
  no_regions : {n : ℕ} → HaveRegions p n [] []
  next_regions : {n : ℕ} {o : Object} {os : List Object} {rs more : List Region}
      → HasRegions p n o rs → HaveRegions p (n + 1) os more → HaveRegions p n (o ∷ os) (rs ++ more)

-- start values stand in static objects and strings alone
abbrev pub starts : ObjectKind → Bool
starts Static = true
starts Text = true
starts k = false

abbrev pub HasStart : Lowered → ℕ → Object → Bool → Type 0
HasStart p n o true = (t : CType) × (o.of ≡ Some t)
    × IsStart (table_of p) p.regions None n t o.start o.zero
HasStart p n o false = (o.start ≡ []) × (o.zero ≡ [])

-- the function that a local object is of, and no other object is of one
abbrev pub HasOwner : Lowered → Object → Bool → Type 0
HasOwner p o true = (k : ℕ) × (o.function ≡ Some k) × (k < length p.functions)
HasOwner p o false = o.function ≡ None

abbrev pub HasType : Lowered → Option CType → Bool → Type 0
HasType p None site = site ≡ true
HasType p (Some t) site = IsFormedType p.structs t

-- a function's object and its code name one another
abbrev pub NamesCode : Lowered → ℕ → Option ℕ → Type 0
NamesCode p n None = ⊤
NamesCode p n (Some k) = (c : Code) × (slice_get p.functions k ≡ Some c) × (c.object ≡ n)

pub record IsObject (p : Lowered) (n : ℕ) (o : Object) : Type 0 where
  pub typed : HasType p o.of (is_site o.kind)
  pub owned : HasOwner p o (is_local o.kind)
  pub start : HasStart p n o (starts o.kind)
  -- start values are known before any cell has a value
  pub constant : All (λ l. reads l.value ≡ false) o.start
  pub code : NamesCode p n o.code

-- the node that a site is of, whose command names it
pub record IsSiteOf (p : Lowered) (n m : ℕ) : Type 0 where
  pub node : Node
  pub there : slice_get p.nodes n ≡ Some node
  pub named : ((which : Routine) × (to : Option Lvalue) × (args : List Expression)
      × (node.command ≡ library which to args (Some m)))
      ⊎ ((to : Option Lvalue) × (args : List Expression)
      × (node.command ≡ outside to args (Some m)))

-- node 0 gives a site exactly where a formal of main has a leaf of pointer type
abbrev pub HasForeign : Lowered → Type 0
HasForeign p = ((m : ℕ) × (o : Object) × (slice_get p.objects m ≡ Some o) × (o.kind ≡ Foreign 0))
    ↔ ((c : Code) × (i m : ℕ) × (o : Object) × (t : CType)
    × (slice_get p.functions p.main ≡ Some c) × (slice_get c.formals i ≡ Some m)
    × (slice_get p.objects m ≡ Some o) × (o.of ≡ Some t) × HasPointer (table_of p) t true)

-- ---- the whole

pub record IsNode (p : Lowered) (n : ℕ) (node : Node) : Type 0 where
  pub formed : IsCommand (table_of p) p.regions n node.function node.command
  pub first : (node.function ≡ None) ↔ (n ≡ 0)
  pub started : n ≡ 0 → node.command ≡ start
  pub inside : (k : ℕ) → node.function ≡ Some k → k < length p.functions

pub record IsFormed (p : Lowered) : Type 0 where
  pub structs : IsTable p.structs
  pub objects : (n : ℕ) (o : Object) → slice_get p.objects n ≡ Some o → IsObject p n o
  pub regions : HaveRegions (table_of p) 0 p.objects p.regions
  pub nodes : (n : ℕ) (node : Node) → slice_get p.nodes n ≡ Some node → IsNode p n node
  pub begins : 1 ≤ length p.nodes
  pub flow : All (λ e. IsEdge p.nodes e.0 e.1) p.flow
  pub functions : (k : ℕ) (c : Code) → slice_get p.functions k ≡ Some c → IsCode p k c
  -- an object has one code, so two codes have two objects
  pub codes : (k : ℕ) (c : Code) → slice_get p.functions k ≡ Some c
      → (o : Object) × (slice_get p.objects c.object ≡ Some o) × (o.code ≡ Some k)
      × ((n : ℕ) × (o.kind ≡ Function n))
  pub main : p.main < length p.functions
  pub returned : (c : ℕ) (node : Node) (callee : Expression) (args : List Expression)
      → slice_get p.nodes c ≡ Some node → node.command ≡ call callee args
      → (n : ℕ) × Returns p.nodes c n × ((m : ℕ) → Returns p.nodes c m → m ≡ n)
  pub returning : (n c : ℕ) (node : Node) (to : Option Lvalue)
      → slice_get p.nodes n ≡ Some node → node.command ≡ return c to → Returns p.nodes c n
  pub heap : (m n : ℕ) (o : Object) → slice_get p.objects m ≡ Some o → o.kind ≡ Heap n
      → IsSiteOf p n m
  pub foreign : (m n : ℕ) (o : Object) → slice_get p.objects m ≡ Some o → o.kind ≡ Foreign n
      → n ≢ 0 → IsSiteOf p n m
  pub foreign_start : HasForeign p
  pub few_nodes : length p.nodes ≤ 500000
  pub few_regions : length p.regions ≤ 200000
