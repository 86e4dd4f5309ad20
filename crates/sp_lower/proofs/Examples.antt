-- The lowering of `int x; int main(void) { x++; return 0; }`: objects 0 and 1 are `x` and `main`, and
-- 2 is the result of `main`.
use Rattle.std.proofs.Common.{◌≡◌, ℕ, pos, false, List, [], ◌∷◌, Option, Some, None, length, map, refl}
use Rattle.sp_tree.specs.declared.fault.Place.{Place}
use Rattle.sp_tree.specs.declared.token.Punct.TheVariants.{Increment}
use Rattle.sp_types.specs.declared.ctype.IntKind.TheVariants.{Int}
use Rattle.sp_types.specs.declared.program.Storage.TheVariants.{Static}
use Rattle.sp_types.specs.declared.program.Linkage.TheVariants.{External}
use Rattle.sp_types.specs.Types.{CType, integer, function, signature, listed, no_types}
use Rattle.sp_types.specs.Programs.{Program, Object, Function}
use Rattle.sp_types.specs.Typed.{Typed, typed, TypedForm}
use Rattle.sp_types.specs.Typed as tree
use Rattle.sp_types.specs.Statements.{TypedStatement, typed_statement, TypedStatementForm, block, single, return_value, no_statements, next_statement}
use Rattle.sp_ir.specs.Programs.{Code}
use Rattle.sp_ir.specs.Regions.{Region}
use Rattle.sp_ir.specs.Shapes.{region}
use Rattle.sp_lower_draft.specs.Draft.{Left}
use Rattle.sp_lower_functions.specs.Functions.{Part}
use Rattle.sp_lower.specs.Programs.{lowering, lowered_program, IsNumbered}

abbrev int : CType
int = integer Int

abbrev at : Place
at = record { name = 0; line = 1; column = 1 }

abbrev t : TypedForm → Typed
t form = typed form int at at

abbrev stm : TypedStatementForm → TypedStatement
stm form = typed_statement form at at

abbrev x : Object
x = record { name = 1; of = int; storage = Static; linkage = External; start = []; place = at }

abbrev body : TypedStatement
body = stm (block [] (next_statement (stm (single (t (tree.after Increment (t (tree.object 0)))))) (next_statement (stm (return_value (Some (t (tree.constant (pos 0)))))) no_statements)))

abbrev main : Function
main = record {
  name = 2;
  of = signature int (listed no_types) false;
  linkage = External;
  formals = [];
  locals = [];
  body = Some body;
  place = at;
  end = at;
}

abbrev program : Program
program = record {
  structs = [];
  objects = x ∷ [];
  functions = main ∷ [];
  definitions = 0 ∷ [];
  constants = [];
  main = 0;
}

-- `a.c`, `x`, `main`
abbrev names : List (List ℕ)
names = (97 ∷ 46 ∷ 99 ∷ []) ∷ (120 ∷ []) ∷ (109 ∷ 97 ∷ 105 ∷ 110 ∷ []) ∷ []

abbrev lowered : Left (List Part)
lowered = lowering program names (0 ∷ [])

is-numbered : IsNumbered program names lowered
is-numbered = record { functions = refl; counts = refl }

five-nodes : length lowered.after.nodes ≡ 5
five-nodes = refl

edges : lowered.after.edges ≡ (1, 2) ∷ (2, 3) ∷ (3, 4) ∷ []
edges = refl

three-objects : length (lowered_program program names lowered).objects ≡ 3
three-objects = refl

regions : (lowered_program program names lowered).regions
    ≡ region 0 [] (Some int) 4 (Some 1) ∷ region 1 [] (Some (function (signature int (listed no_types) false))) 1 (Some 1)
    ∷ region 2 [] (Some int) 4 (Some 1) ∷ []
regions = refl

codes : (lowered_program program names lowered).functions
    ≡ record { entry = 1; exit = 4; formals = []; result = Some 2; object = 1 } ∷ []
codes = refl
