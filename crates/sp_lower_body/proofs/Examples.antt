-- The nodes and edges of small bodies.
use Rattle.std.proofs.Common.{◌≡◌, ℕ, pos, List, [], ◌∷◌, Some, None, map, refl}
use Rattle.sp_tree.specs.declared.fault.Place.{Place}
use Rattle.sp_tree.specs.declared.token.Punct.TheVariants.{Assign, Plus, Minus, AndAnd, Increment}
use Rattle.sp_types.specs.declared.ctype.IntKind.TheVariants.{Int}
use Rattle.sp_types.specs.declared.program.Storage.TheVariants.{Auto}
use Rattle.sp_types.specs.declared.program.Linkage.TheVariants.{Inner}
use Rattle.sp_types.specs.Types.{CType, integer, array}
use Rattle.sp_types.specs.Programs.{Object}
use Rattle.sp_types.specs.Typed.{Typed, typed, TypedForm}
use Rattle.sp_types.specs.Typed as tree
use Rattle.sp_types.specs.Statements.{TypedStatement, typed_statement, TypedStatementForm, label, case_of, default_of, block, single, if_else, switch_on, do_loop, for_loop, goto_name, continue_loop, break_out, return_value, no_statement, no_statements, next_statement}
use Rattle.sp_ir.specs.Commands.{number, read, binary, direct, assign, init, entry, Node, Command}
use Rattle.sp_lower_body.specs.Frames.{Frame}
use Rattle.sp_lower_body.specs.Bodies.{Body}
use Rattle.sp_lower_body.specs.Statements.{lower_statement}

abbrev int : CType
int = integer Int

abbrev at : Place
at = record { name = 0; line = 1; column = 1 }

abbrev t : TypedForm → Typed
t form = typed form int at at

abbrev a : Typed
a = t (tree.object 0)

abbrev num : ℕ → Typed
num n = t (tree.constant (pos n))

abbrev variable : CType → List (ℕ × Typed) → Object
variable of start = record {
  name = 0;
  of = of;
  storage = Auto;
  linkage = Inner;
  start = start;
  place = at;
}

-- `int a;` and `int b[3] = {a++, a};`, whose only cell is region 2; the result is object 2
abbrev frame : Frame
frame = record {
  context = record {
    structs = [];
    objects = variable int [] ∷ variable (array int (Some 3)) ((0, t (tree.after Increment a)) ∷ (1, a) ∷ []) ∷ [];
    functions = [];
    routines = [];
    pointers = [];
    function = 0;
    first_temporary = 3;
    first_site = 9;
  };
  initials = record { cells = []; zero = [] } ∷ record { cells = 2 ∷ 2 ∷ []; zero = 2 ∷ [] } ∷ [];
  result = 2;
  result_type = int;
}

-- behind the entry of the function
abbrev begun : Body
begun = record {
  draft = record {
    nodes = record { command = entry 0; place = at; function = Some 0 } ∷ [];
    edges = [];
    loose = 0 ∷ [];
    temporaries = [];
    sites = [];
  };
  breaks = [];
  continues = [];
  returns = [];
  gotos = [];
  labels = [];
  cases = [];
  otherwise = 0;
}

abbrev stm : TypedStatementForm → TypedStatement
stm f = typed_statement f at at

abbrev lowered : TypedStatement → Body
lowered s = lower_statement frame s begun

abbrev commands : Body → List Command
commands b = map (λ (n : Node). n.command) b.draft.nodes

-- do { if (a) continue; a = a - 1; } while (a && 1); return a;
abbrev loop : TypedStatement
loop = stm (block [] (next_statement
    (stm (do_loop
    (stm (block [] (next_statement (stm (if_else a (stm continue_loop) no_statement)) (next_statement (stm (single (t (tree.assign Assign a (t (tree.binary Minus a (num 1))))))) no_statements))))
    (t (tree.binary AndAnd a (num 1)))))
    (next_statement (stm (return_value (Some a))) no_statements)))

-- 0 entry, 1 head, 2 and 3 the condition of `if`, 4 `a = a - 1`, 5 the end, 6 to 9 the condition, 10 the result
pub loop_edges : (lowered loop).draft.edges ≡ (0, 1) ∷ (1, 2) ∷ (1, 3) ∷ (3, 4) ∷ (4, 5) ∷ (2, 5) ∷ (5, 6) ∷ (5, 7) ∷ (6, 8) ∷ (6, 9) ∷ (8, 1) ∷ (7, 10) ∷ (9, 10) ∷ []
loop_edges = refl

pub loop_returns : (lowered loop).returns ≡ 10 ∷ []
loop_returns = refl

-- switch (a) { case 1: a = 2; case 3: break; default: goto end; } end: return a++;
abbrev jumps : TypedStatement
jumps = stm (block [] (next_statement
    (stm (switch_on a (stm (block []
    (next_statement (stm (case_of (pos 1) (stm (single (t (tree.assign Assign a (num 2)))))))
    (next_statement (stm (case_of (pos 3) (stm break_out)))
    (next_statement (stm (default_of (stm (goto_name 7)))) no_statements)))))))
    (next_statement (stm (label 7 (stm (return_value (Some (t (tree.after Increment a))))))) no_statements)))

-- 0 entry; 1, 2 the cases; 3 the default; 4 case 1, 5 a = 2; 6 case 3; 7 default; 8 end; 9, 10 a++; 11 the result
pub jumps_edges : (lowered jumps).draft.edges ≡ (0, 1) ∷ (0, 2) ∷ (0, 3) ∷ (1, 4) ∷ (4, 5) ∷ (5, 6) ∷ (2, 6) ∷ (3, 7) ∷ (6, 8) ∷ (8, 9) ∷ (9, 10) ∷ (10, 11) ∷ []
jumps_edges = refl

pub jumps_gotos : (lowered jumps).gotos ≡ (7, 7) ∷ []
jumps_gotos = refl

pub jumps_labels : (lowered jumps).labels ≡ (7, 8) ∷ []
jumps_labels = refl

-- switch (a) case 5: ; without a default its node is loose too
pub no_default : (lowered (stm (switch_on a (stm (case_of (pos 5) (stm break_out)))))).draft.loose ≡ 3 ∷ 2 ∷ []
no_default = refl

-- for (;;) break; has no condition: only the `break` leaves
pub for_ever : (lowered (stm (for_loop None None None (stm break_out)))).draft.loose ≡ 1 ∷ []
for_ever = refl

-- { int b[3] = {a++, a}; }: the old value of `a` stands in a temporary; `a` adds no nodes
pub initial_nodes : commands (lowered (stm (block (1 ∷ []) no_statements)))
    ≡ entry 0
    ∷ assign (direct 3 int) (read (direct 0 int))
    ∷ assign (direct 0 int) (binary Plus Int (read (direct 3 int)) (number (pos 1) Int) at)
    ∷ init 1 (record { number = 0; cell = 2; value = read (direct 3 int) } ∷ record { number = 1; cell = 2; value = read (direct 0 int) } ∷ []) (2 ∷ [])
    ∷ []
initial_nodes = refl
