-- The nodes and edges of functions (C90 6.7.1): an entry, the body, an exit.
use Rattle.std.specs.Prelude.{ℕ, ◌+◌, ◌==◌, List, [], ◌∷◌, ◌++◌, Option, Some, None, map, length, slice_get, if◌then◌else◌}
use Rattle.sp_types.specs.Types.{CType, result_of}
use Rattle.sp_types.specs.Programs.{Function}
use Rattle.sp_types.specs.Statements.{TypedStatement}
use Rattle.sp_ir.specs.Commands.{entry, exit}
use Rattle.sp_lower_draft.specs.Context.{Context, is_void}
use Rattle.sp_lower_draft.specs.Draft.{Draft, Left, left, next, add}
use Rattle.sp_lower_body.specs.Frames.{Frame, Initial}
use Rattle.sp_lower_body.specs.Bodies.{Body}
use Rattle.sp_lower_body.specs.Statements.{lower_statement}

-- ---- gotos (C90 6.6.6.1)

-- the node of a label
abbrev pub label_node : List (ℕ × ℕ) → ℕ → ℕ
label_node [] n = 0
label_node (l ∷ ls) n = if l.0 == n then l.1 else label_node ls n

-- where a look-up of its name gave this; 0 without one
abbrev pub node_in : Option ℕ → ℕ
node_in None = 0
node_in (Some n) = n

-- an edge from each end that goes to a label
abbrev pub goto_edges : List (ℕ × ℕ) → List (ℕ × ℕ) → List (ℕ × ℕ)
goto_edges labels gotos = map (λ (g : ℕ × ℕ). (g.0, label_node labels g.1)) gotos

-- ---- bodies

abbrev pub begun : Draft → Body
begun s = record {
  draft = s;
  breaks = [];
  continues = [];
  returns = [];
  gotos = [];
  labels = [];
  cases = [];
  otherwise = 0;
}

-- behind a body its ends and those of `return` are loose
abbrev pub ended : Body → Draft
ended b = record b.draft {
  edges = b.draft.edges ++ goto_edges b.labels b.gotos;
  loose = b.draft.loose ++ b.returns;
}

abbrev pub lower_body : Frame → Option TypedStatement → Draft → Draft
lower_body f None s = s
lower_body f (Some body) s = ended (lower_statement f body (begun s))

-- ---- functions

-- between functions no end is loose, and there is no temporary
abbrev pub outside_functions : Draft → Draft
outside_functions s = record s { loose = []; temporaries = [] }

-- before its exit
abbrev pub inside_function : Frame → Function → Draft → Draft
inside_function f g s =
    lower_body f g.body
    (add f.context (entry f.context.function) g.place (outside_functions s))

abbrev pub lower_function : Frame → Function → Draft → Draft
lower_function f g s =
    outside_functions (add f.context (exit f.context.function) g.end (inside_function f g s))

-- what a function's lowering makes known: the nodes of its entry and its exit, and its temporaries
pub record Part : Type 0 where
  pub entry : ℕ
  pub exit : ℕ
  pub temporaries : List CType

abbrev pub part_of_function : Frame → Function → Draft → Part
part_of_function f g s = record {
  entry = next s;
  exit = next (inside_function f g s);
  temporaries = (inside_function f g s).temporaries;
}

-- ---- all functions

-- how many objects hold its result
abbrev pub result_count : Function → ℕ
result_count g = if is_void (result_of g.of) then 0 else 1

-- the function of number k, whose objects begin at `first`, with so many temporaries
abbrev pub frame_for : Context → List Initial → ℕ → ℕ → ℕ → Function → Frame
frame_for c initials k first count g = record {
  context = record c { function = k; first_temporary = first };
  initials = initials;
  result = first + count;
  result_type = result_of g.of;
}

abbrev pub first_count : List ℕ → ℕ
first_count [] = 0
first_count (n ∷ ns) = n

abbrev pub counts_behind : List ℕ → List ℕ
counts_behind [] = []
counts_behind (n ∷ ns) = ns

-- the functions of these numbers
abbrev pub with_function : Option Function → List Function → List Function
with_function None gs = gs
with_function (Some g) gs = g ∷ gs

abbrev pub functions_at : List Function → List ℕ → List Function
functions_at fs [] = []
functions_at fs (n ∷ ns) = with_function (slice_get fs n) (functions_at fs ns)

-- The functions from the number k on, whose objects begin at `first`, where these are the numbers of
-- their temporaries: each function's temporaries, then its result.
abbrev pub lower_functions : Context → List Initial → ℕ → ℕ → List Function → List ℕ → Draft
    → Left (List Part)
lower_functions c is k first [] ns s = left [] s
lower_functions c is k first (g ∷ gs) ns s =
    let f : Frame = frame_for c is k first (first_count ns) g in
    let rest : Left (List Part) =
    lower_functions c is (k + 1) (first + first_count ns + result_count g) gs (counts_behind ns)
    (lower_function f g s) in
    left (part_of_function f g s ∷ rest.pure) rest.after

-- how many temporaries each has
abbrev pub temporary_counts : List Part → List ℕ
temporary_counts ps = map (λ (p : Part). length p.temporaries) ps
