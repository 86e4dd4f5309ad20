-- The nodes and edges of small expressions.
use Rattle.std.proofs.Common.{◌≡◌, ℕ, zero, suc, true, false, pos, List, [], ◌∷◌, Option, Some, None, length, map, refl}
use Rattle.sp_tree.specs.declared.fault.Place.{Place}
use Rattle.sp_tree.specs.declared.token.Punct.TheVariants.{Assign, PlusAssign, Plus, EqualEqual, NotEqual, Less, GreaterEqual, AndAnd, OrOr, Increment, Exclamation, Star, Ampersand}
use Rattle.sp_types.specs.declared.ctype.IntKind.TheVariants.{Int, Long, Char}
use Rattle.sp_types.specs.declared.program.Storage.TheVariants.{Auto}
use Rattle.sp_types.specs.declared.program.Linkage.TheVariants.{Inner, External}
use Rattle.sp_types.specs.Types.{CType, void, integer, pointer, array, function, signature, untold}
use Rattle.sp_types.specs.Programs.{Object, Function}
use Rattle.sp_types.specs.Typed.{Typed, typed, TypedForm, next_typed, no_typed}
use Rattle.sp_types.specs.Typed as tree
use Rattle.sp_types.specs.Statements.{typed_statement, empty}
use Rattle.sp_ir.specs.declared.command.Routine.TheVariants.{Malloc}
use Rattle.sp_ir.specs.Commands.{Expression, number, address, decay, read, convert, binary, compare, move, Lvalue, direct, through, Command, assign, assume, eval, call, return, library, Node}
use Rattle.sp_lower_draft.specs.Context.{Context}
use Rattle.sp_lower_draft.specs.Draft.{Draft, Left, Branch}
use Rattle.sp_lower_draft.specs.Expressions.{meaning}

abbrev int : CType
int = integer Int

abbrev at : Place
at = record { name = 0; line = 1; column = 1 }

abbrev variable : CType → Object
variable t = record {
  name = 0;
  of = t;
  storage = Auto;
  linkage = Inner;
  start = [];
  place = at;
}

-- a function of the type `int()`
abbrev routine : Option Typed → Function
routine none = record {
  name = 0;
  of = signature int untold false;
  linkage = External;
  formals = [];
  locals = [];
  body = Some (typed_statement empty at at);
  place = at;
  end = at;
}

abbrev undefined : Function
undefined = record {
  name = 0;
  of = signature (pointer void) untold false;
  linkage = External;
  formals = [];
  locals = [];
  body = None;
  place = at;
  end = at;
}

-- `int a[3]; int i; int *p; int (*q)[];` with a defined function, and `malloc`, which isn't
abbrev here : Context
here = record {
  structs = [];
  objects = variable (array int (Some 3)) ∷ variable int ∷ variable (pointer int)
      ∷ variable (pointer (array int None)) ∷ [];
  functions = routine None ∷ undefined ∷ [];
  routines = None ∷ Some Malloc ∷ [];
  pointers = [];
  function = 0;
  first_temporary = 10;
  first_site = 20;
}

-- node 0 alone, which is loose
abbrev begun : Draft
begun = record {
  nodes = record { command = eval (number (pos 7) Int); place = at; function = Some 0 } ∷ [];
  edges = [];
  loose = 0 ∷ [];
  temporaries = [];
  sites = [];
}

abbrev t : TypedForm → CType → Typed
t form of = typed form of at at

abbrev a : Typed
a = t (tree.decay (t (tree.object 0) (array int (Some 3)))) (pointer int)

abbrev i : Typed
i = t (tree.object 1) int

abbrev p : Typed
p = t (tree.object 2) (pointer int)

abbrev q : Typed
q = t (tree.object 3) (pointer (array int None))

abbrev num : ℕ → Typed
num n = t (tree.constant (pos n)) int

abbrev f : Typed
f = t (tree.call (t (tree.decay (t (tree.function 0) (function (signature int untold false))))
    (pointer (function (signature int untold false)))) no_typed) int

abbrev commands : Draft → List Command
commands s = map (λ (n : Node). n.command) s.nodes

abbrev seven : Command
seven = eval (number (pos 7) Int)

abbrev element : Expression → Lvalue
element index = through (move (decay (direct 0 (array int (Some 3)))) index false 4) int at

-- `a[i] = 1;` is one node
pub store_nodes : commands ((meaning here (t (tree.assign Assign (t (tree.index a i) int) (num 1)) int)).unused begun)
    ≡ seven ∷ assign (element (read (direct 1 int))) (number (pos 1) Int) ∷ []
store_nodes = refl

-- `a[i] = f();`: the address of `a[i]` is kept before the call
pub kept_address : commands ((meaning here (t (tree.assign Assign (t (tree.index a i) int) f) int)).unused begun)
    ≡ seven
    ∷ assign (direct 10 (pointer int)) (address (element (read (direct 1 int))))
    ∷ call (address (direct 4 (function (signature int untold false)))) []
    ∷ return 2 (Some (direct 11 int))
    ∷ assign (through (read (direct 10 (pointer int))) int at) (read (direct 11 int)) ∷ []
kept_address = refl

-- there is no edge from a call to its return
pub kept_edges : ((meaning here (t (tree.assign Assign (t (tree.index a i) int) f) int)).unused begun).edges
    ≡ (0, 1) ∷ (1, 2) ∷ (3, 4) ∷ []
kept_edges = refl

-- `f() + f()`: the first result is saved once more
pub sum_value : ((meaning here (t (tree.binary Plus f f) int)).value None begun).pure
    ≡ binary Plus Int (read (direct 11 int)) (read (direct 12 int)) at
sum_value = refl

-- `i++`, used: the old value is left
pub old_value : commands ((meaning here (t (tree.after Increment i) int)).value None begun).after
    ≡ seven ∷ assign (direct 10 int) (read (direct 1 int))
    ∷ assign (direct 1 int) (binary Plus Int (read (direct 10 int)) (number (pos 1) Int) at) ∷ []
old_value = refl

-- `!(i < 3 || a[0])` as a condition: the ends of `i < 3` are false ones, with the true end of `a[0]`
abbrev denied : Branch
denied = (meaning here (t (tree.unary Exclamation (t (tree.binary OrOr
    (t (tree.binary Less i (num 3)) int) (t (tree.index a (num 0)) int)) int)) int)).branch begun

pub denied_commands : commands denied.after
    ≡ seven ∷ assume (read (direct 1 int)) Less (number (pos 3) Int)
    ∷ assume (read (direct 1 int)) GreaterEqual (number (pos 3) Int)
    ∷ assume (read (element (number (pos 0) Int))) NotEqual (number (pos 0) Int)
    ∷ assume (read (element (number (pos 0) Int))) EqualEqual (number (pos 0) Int) ∷ []
denied_commands = refl

pub denied_edges : denied.after.edges ≡ (0, 1) ∷ (0, 2) ∷ (2, 3) ∷ (2, 4) ∷ []
denied_edges = refl

pub denied_yes : denied.yes ≡ 4 ∷ []
denied_yes = refl

pub denied_no : denied.no ≡ 1 ∷ 3 ∷ []
denied_no = refl

-- `(*q)[1]` where the array's length isn't known: the pointer itself is converted
pub bare_element : ((meaning here (t (tree.index (t (tree.decay (t (tree.unary Star q) (array int None))) (pointer int)) (num 1)) int)).place begun).pure
    ≡ through (move (convert (pointer int) (read (direct 3 (pointer (array int None))))) (number (pos 1) Int) false 4) int at
bare_element = refl

-- `p = malloc(8);`: the site has the element type of `p`
pub allocated : commands ((meaning here (t (tree.assign Assign p (t (tree.convert (t (tree.call (t (tree.decay (t (tree.function 1) (function (signature (pointer void) untold false)))) (pointer (function (signature (pointer void) untold false)))) (next_typed (num 8) no_typed)) (pointer void))) (pointer int))) (pointer int))).unused begun)
    ≡ seven
    ∷ library Malloc (Some (direct 10 (pointer void))) (number (pos 8) Int ∷ []) (Some 20)
    ∷ assign (direct 2 (pointer int)) (convert (pointer int) (read (direct 10 (pointer void)))) ∷ []
allocated = refl

-- `i ? i : i`, fifteen deep: nothing is computed twice a level
abbrev deep : ℕ → Typed
deep zero = i
deep (suc n) = t (tree.choice (deep n) (num 1) (num 2)) int

pub deep_temporaries : length ((meaning here (deep 15)).value None begun).after.temporaries ≡ 15
deep_temporaries = refl
