-- What each command lets a cell point to: the rules of points-to, one line for each command.
use Rattle.std.specs.Prelude.{◌≡◌, ◌⊎◌, ℕ, Bool, true, false, List, length, Option, Some, None, slice_get, nat_eq}
use Rattle.sp_types.specs.Types.{CType, structure}
use Rattle.sp_ir.specs.declared.command.Routine.{Routine}
use Rattle.sp_ir.specs.declared.command.Routine.TheVariants.{Malloc, Calloc, Realloc, Free, Exit, Abort, Memset, Memcpy, Memmove, Strlen, Strcpy, Strncpy, Strcat}
use Rattle.sp_ir.specs.declared.program.ObjectKind.{ObjectKind}
use Rattle.sp_ir.specs.declared.program.ObjectKind.TheVariants.{Static, Outside, Text as TextObject, Auto, Formal, Temp, Result, Function, Heap, Foreign}
use Rattle.sp_ir.specs.Commands.{Expression, number, address, decay, read, convert, unary, binary, compare, move, distance, Lvalue, lvalue_type, Leaf, Command, start, entry, exit, skip, assign, copy, init, assume, eval, call, return, library, outside, Node}
use Rattle.sp_ir.specs.Programs.{Lowered, Object, Code}
use Rattle.sp_ir.specs.Terrain.{terrain_of}
use Rattle.sp_ir.specs.Denoted.{keeps_targets}
use Rattle.sp_base_sets.specs.Sets.{has}
use Rattle.sp_points_expr.specs.Tables.{Table}
use Rattle.sp_points_rules.specs.declared.sources.Test.TheVariants.{KeptScalar, AnyScalar, Aggregate}
use Rattle.sp_points_rules.specs.declared.sources.Only.{Only}
use Rattle.sp_points_rules.specs.declared.sources.Only.TheVariants.{Every, Texts, HeapRoots, Pointers, PointerLeaves}
use Rattle.sp_points_rules.specs.declared.library.Given.{Given}
use Rattle.sp_points_rules.specs.declared.library.Given.TheVariants.{Allocated, Reallocated, Argument, NoPointer}
use Rattle.sp_points_rules.specs.declared.library.Moved.{Moved}
use Rattle.sp_points_rules.specs.declared.library.Moved.TheVariants.{AllCells, Text, NoCells}
use Rattle.sp_points_rules.specs.Paths.{mirrored, pairs}
use Rattle.sp_points_rules.specs.Sources.{Base, regions, cells, region, formals, results, Source, InSource, Calls}

-- ---- two kinds of rules

abbrev pub all_of : Base → Source
all_of b = record { base = b; only = Every; read = false }

abbrev pub only_of : Only → Base → Source
only_of o b = record { base = b; only = o; read = false }

-- what these may point to
abbrev pub read_of : Only → Base → Source
read_of o b = record { base = b; only = o; read = true }

-- every region of the one goes to every cell of the other
abbrev pub Product : Lowered → Table → Source → Source → ℕ → ℕ → Type 0
Product p u to from c r = InSource p u to c × InSource p u from r

-- The cell c under q takes over what the cell b under s points to, where one path leads to both. In
-- a region that is kept as bytes each path stays.
abbrev pub Corresponds : Lowered → ℕ → ℕ → ℕ → ℕ → Type 0
Corresponds p q s c b = (mirrored p q s c ≡ Some b) ⊎ (mirrored p s q b ≡ Some c)

-- the cells of regions of one source take over what those of the other's point to, cell by cell,
-- where the two match
pub record Copies (p : Lowered) (u : Table) (to from : Source) (c r : ℕ) : Type 0 where
  pub target : ℕ
  pub source : ℕ
  pub cell : ℕ
  pub goes : InSource p u to target
  pub comes : InSource p u from source
  pub fits : pairs p target source ≡ true
  pub alike : Corresponds p target source c cell
  pub holds : has r (u cell) ≡ true

-- ---- leaves

-- a leaf of the list has the cell, and its value points there (C90 6.5.7)
pub record PutsLeaf (p : Lowered) (u : Table) (leaves : List Leaf) (c r : ℕ) : Type 0 where
  pub place : ℕ
  pub leaf : Leaf
  pub there : slice_get leaves place ≡ Some leaf
  pub puts : Product p u (all_of (region leaf.cell)) (all_of (regions leaf.value)) c r

-- static objects and strings have their start values
pub record PutsStart (p : Lowered) (u : Table) (c r : ℕ) : Type 0 where
  pub number : ℕ
  pub object : Object
  pub there : slice_get p.objects number ≡ Some object
  pub puts : PutsLeaf p u object.start c r

abbrev pub is_foreign : ObjectKind → ℕ → Bool
is_foreign (Foreign n) m = nat_eq n m
is_foreign Static m = false
is_foreign Outside m = false
is_foreign TextObject m = false
is_foreign Auto m = false
is_foreign Formal m = false
is_foreign Temp m = false
is_foreign Result m = false
is_foreign (Function n) m = false
is_foreign (Heap n) m = false

-- what the parameters of the first function point to comes from outside
pub record PutsForeign (p : Lowered) (u : Table) (c r : ℕ) : Type 0 where
  pub number : ℕ
  pub object : Object
  pub there : slice_get p.objects number ≡ Some object
  pub foreign : is_foreign object.kind 0 ≡ true
  pub place : ℕ
  pub formal : ℕ
  pub code : Code
  pub main : slice_get p.functions p.main ≡ Some code
  pub at : slice_get code.formals place ≡ Some formal
  pub puts : Product p u (only_of PointerLeaves (region ((terrain_of p).root formal))) (all_of (region ((terrain_of p).root number))) c r

-- ---- calls (C90 6.3.2.2)

abbrev pub struct_in : CType → Option ℕ
struct_in (structure n) = Some n
struct_in t = None

abbrev pub struct_read : Option ℕ → Lvalue → Option (ℕ × Lvalue)
struct_read None l = None
struct_read (Some n) l = Some (n, l)

-- the struct that an expression is, and the lvalue that it is read from
abbrev pub as_struct : Expression → Option (ℕ × Lvalue)
as_struct (read l) = struct_read (struct_in (lvalue_type l)) l
as_struct (number z k) = None
as_struct (address l) = None
as_struct (decay l) = None
as_struct (convert t e) = None
as_struct (unary op k e) = None
as_struct (binary op k e f at) = None
as_struct (compare op e f) = None
as_struct (move e f back size) = None
as_struct (distance e f size) = None

-- an argument goes to the parameters of its place that it fits: a scalar to scalars that keep what
-- it points to, a struct to that struct, cell by cell
abbrev pub PassesAs : Lowered → Table → Expression → ℕ → ℕ → Option (ℕ × Lvalue) → Expression → ℕ → ℕ → Type 0
PassesAs p u callee count place None arg c r =
    Product p u (all_of (formals callee count place KeptScalar)) (all_of (regions arg)) c r
PassesAs p u callee count place (Some s) arg c r =
    Copies p u (all_of (formals callee count place (Aggregate s.0))) (all_of (cells s.1)) c r

pub record Passes (p : Lowered) (u : Table) (callee : Expression) (args : List Expression) (c r : ℕ) : Type 0 where
  pub place : ℕ
  pub arg : Expression
  pub there : slice_get args place ≡ Some arg
  pub puts : PassesAs p u callee (length args) place (as_struct arg) arg c r

-- a result goes to where it is assigned, in the same way
abbrev pub ReturnsAs : Lowered → Table → Expression → ℕ → Option ℕ → Lvalue → ℕ → ℕ → Type 0
ReturnsAs p u callee count None to c r = (keeps_targets (lvalue_type to) ≡ true)
    × Product p u (all_of (cells to)) (read_of Every (results callee count AnyScalar)) c r
ReturnsAs p u callee count (Some n) to c r =
    Copies p u (all_of (cells to)) (all_of (results callee count (Aggregate n))) c r

abbrev pub ReturnsTo : Lowered → Table → Expression → ℕ → Option Lvalue → ℕ → ℕ → Type 0
ReturnsTo p u callee count None c r = ⊥
ReturnsTo p u callee count (Some to) c r = ReturnsAs p u callee count (struct_in (lvalue_type to)) to c r

-- what a command calls, and with how many arguments
abbrev pub as_call : Command → Option (Expression × ℕ)
as_call (call callee args) = Some (callee, length args)
as_call start = None
as_call (entry f) = None
as_call (exit f) = None
as_call skip = None
as_call (assign l e) = None
as_call (copy l m) = None
as_call (init o values zeros) = None
as_call (assume a op b) = None
as_call (eval e) = None
as_call (return n l) = None
as_call (library which l args site) = None
as_call (outside l args site) = None

abbrev pub Returns : Lowered → Table → Option (Expression × ℕ) → Option Lvalue → ℕ → ℕ → Type 0
Returns p u None to c r = ⊥
Returns p u (Some x) to c r = ReturnsTo p u x.0 x.1 to c r

abbrev pub command_in : Option Node → Command
command_in None = skip
command_in (Some node) = node.command

-- a command calls the function
abbrev pub CallsBy : Lowered → Table → Option (Expression × ℕ) → ℕ → Type 0
CallsBy p u None f = ⊥
CallsBy p u (Some x) f = Calls p u x.0 x.1 f

-- the command of a node
abbrev pub command_at : Lowered → ℕ → Command
command_at p n = command_in (slice_get p.nodes n)

-- ---- functions of the library (C90 7.10, 7.11), and functions that aren't defined

-- what a function of the library gives: what it allocated; that, or its first argument where that
-- was allocated; its first argument
abbrev pub given_by : Routine → Given
given_by Malloc = Allocated
given_by Calloc = Allocated
given_by Realloc = Reallocated
given_by Memset = Argument
given_by Memcpy = Argument
given_by Memmove = Argument
given_by Strcpy = Argument
given_by Strncpy = Argument
given_by Strcat = Argument
given_by Free = NoPointer
given_by Exit = NoPointer
given_by Abort = NoPointer
given_by Strlen = NoPointer

abbrev pub Site : Lowered → Table → Lvalue → Option ℕ → ℕ → ℕ → Type 0
Site p u to None c r = ⊥
Site p u to (Some n) c r = Product p u (all_of (cells to)) (all_of (region ((terrain_of p).root n))) c r

abbrev pub First : Lowered → Table → Only → Lvalue → Option Expression → ℕ → ℕ → Type 0
First p u only to None c r = ⊥
First p u only to (Some e) c r = Product p u (all_of (cells to)) (only_of only (regions e)) c r

abbrev pub GivesBack : Lowered → Table → Given → Lvalue → List Expression → Option ℕ → ℕ → ℕ → Type 0
GivesBack p u Allocated to args site c r = Site p u to site c r
GivesBack p u Reallocated to args site c r = Site p u to site c r ⊎ First p u HeapRoots to (slice_get args 0) c r
GivesBack p u Argument to args site c r = First p u Every to (slice_get args 0) c r
GivesBack p u NoPointer to args site c r = ⊥

-- a result keeps what it points to where its type does
abbrev pub GivesResult : Lowered → Table → Given → Option Lvalue → List Expression → Option ℕ → ℕ → ℕ → Type 0
GivesResult p u given None args site c r = ⊥
GivesResult p u given (Some to) args site c r = (keeps_targets (lvalue_type to) ≡ true)
    × GivesBack p u given to args site c r

-- what a function of the library copies to where its first argument points, from where its second
-- does: cells, or text
abbrev pub moved_by : Routine → Moved
moved_by Memcpy = AllCells
moved_by Memmove = AllCells
moved_by Strcpy = Text
moved_by Strncpy = Text
moved_by Strcat = Text
moved_by Malloc = NoCells
moved_by Calloc = NoCells
moved_by Realloc = NoCells
moved_by Memset = NoCells
moved_by Free = NoCells
moved_by Exit = NoCells
moved_by Abort = NoCells
moved_by Strlen = NoCells

abbrev pub MovesFrom : Lowered → Table → Moved → Expression → Expression → ℕ → ℕ → Type 0
MovesFrom p u AllCells d s c r = Copies p u (all_of (regions d)) (all_of (regions s)) c r
MovesFrom p u Text d s c r = Product p u (only_of Texts (regions d)) (read_of Texts (regions s)) c r
MovesFrom p u NoCells d s c r = ⊥

abbrev pub Moves : Lowered → Table → Moved → Option Expression → Option Expression → ℕ → ℕ → Type 0
Moves p u moved None s c r = ⊥
Moves p u moved (Some d) None c r = ⊥
Moves p u moved (Some d) (Some s) c r = MovesFrom p u moved d s c r

-- each cell of the result that may hold a pointer points outside
abbrev pub FromOutside : Lowered → Table → Option Lvalue → Option ℕ → ℕ → ℕ → Type 0
FromOutside p u None site c r = ⊥
FromOutside p u (Some to) None c r = ⊥
FromOutside p u (Some to) (Some site) c r =
    Product p u (only_of Pointers (cells to)) (all_of (region ((terrain_of p).root site))) c r

-- ---- commands

-- by what each cell points to, the command lets the cell c point to the region r
abbrev pub Puts : Lowered → Table → Command → ℕ → ℕ → Type 0
Puts p u start c r = PutsStart p u c r ⊎ PutsForeign p u c r
Puts p u (entry f) c r = ⊥
Puts p u (exit f) c r = ⊥
Puts p u skip c r = ⊥
Puts p u (assign to e) c r = Product p u (all_of (cells to)) (all_of (regions e)) c r
Puts p u (copy to from) c r = Copies p u (all_of (cells to)) (all_of (cells from)) c r
Puts p u (init o values zeros) c r = PutsLeaf p u values c r
Puts p u (assume a op b) c r = ⊥
Puts p u (eval e) c r = ⊥
Puts p u (call callee args) c r = Passes p u callee args c r
Puts p u (return n to) c r = Returns p u (as_call (command_at p n)) to c r
Puts p u (library which to args site) c r = GivesResult p u (given_by which) to args site c r
    ⊎ Moves p u (moved_by which) (slice_get args 0) (slice_get args 1) c r
Puts p u (outside to args site) c r = FromOutside p u to site c r

-- the rules of a program, one for each node
abbrev pub rules_of : Lowered → Table → ℕ → ℕ → ℕ → Type 0
rules_of p u n c r = Puts p u (command_at p n) c r
