-- The nodes and edges so far, and the loose ends: the nodes that still need a successor.
use Rattle.std.specs.Prelude.{ℕ, ◌+◌, ◌&&◌, Bool, pos, List, [], ◌∷◌, ◌++◌, Option, Some, length, map, if◌then◌else◌}
use Rattle.sp_tree.specs.declared.fault.Place.{Place}
use Rattle.sp_tree.specs.declared.token.Punct.{Punct}
use Rattle.sp_tree.specs.declared.token.Punct.TheVariants.{Less, LessEqual, Greater, GreaterEqual, EqualEqual, NotEqual}
use Rattle.sp_types.specs.declared.ctype.IntKind.TheVariants.{Int}
use Rattle.sp_types.specs.Types.{CType, pointer, structure}
use Rattle.sp_types.specs.Typed.{Typed, of, place_of}
use Rattle.sp_ir.specs.Commands.{holds_read, lvalue_holds_read, Expression, number, address, read, compare, Lvalue, direct, through, Command, assign, copy, assume, eval, Node}
use Rattle.sp_lower_draft.specs.Context.{Context}

-- a site: its node, its element type where it has one, and whether the library made it
pub record Site : Type 0 where
  pub node : ℕ
  pub of : Option CType
  pub heap : Bool

pub record Draft : Type 0 where
  pub nodes : List Node
  pub edges : List (ℕ × ℕ)
  pub loose : List ℕ
  -- the types of the function's temporaries, by the first node that writes each
  pub temporaries : List CType
  pub sites : List Site

-- what is left of an expression or an lvalue behind its nodes
pub record Left (A : Type 0) : Type 0 where
  pub after : Draft
  pub pure : A

abbrev pub left : {A : Type 0} → A → Draft → Left A
left a s = record { after = s; pure = a }

-- what is left of a condition: its true ends and its false ends. The draft has no loose ends.
pub record Branch : Type 0 where
  pub after : Draft
  pub yes : List ℕ
  pub no : List ℕ

-- ---- nodes and edges

abbrev pub edges_to : ℕ → List ℕ → List (ℕ × ℕ)
edges_to n froms = map (λ m. (m, n)) froms

-- the number of the next node
abbrev pub next : Draft → ℕ
next s = length s.nodes

abbrev pub with_loose : List ℕ → Draft → Draft
with_loose ends s = record s { loose = ends }

-- an edge from each of these ends to that node
abbrev pub join : ℕ → List ℕ → Draft → Draft
join n ends s = record s { edges = s.edges ++ edges_to n ends }

-- a new node gets an edge from each loose end, and becomes the only loose end
abbrev pub add : Context → Command → Place → Draft → Draft
add c command place s = record s {
  nodes = s.nodes ++ record { command = command; place = place; function = Some c.function } ∷ [];
  edges = s.edges ++ edges_to (length s.nodes) s.loose;
  loose = length s.nodes ∷ [];
}

-- a node for an expression whose value isn't used
abbrev pub evaluated : Context → Typed → Expression → Draft → Draft
evaluated c e v s = add c (eval v) (place_of e) s

-- ---- conditions

-- the relation that holds where this one doesn't
abbrev pub opposite : Punct → Punct
opposite Less = GreaterEqual
opposite LessEqual = Greater
opposite Greater = LessEqual
opposite GreaterEqual = Less
opposite EqualEqual = NotEqual
opposite p = EqualEqual

pub record Condition : Type 0 where
  pub lhs : Expression
  pub relation : Punct
  pub rhs : Expression

-- a comparison is its own condition; any other value is compared with 0
abbrev pub condition : Expression → Condition
condition (compare p a b) = record { lhs = a; relation = p; rhs = b }
condition e = record { lhs = e; relation = NotEqual; rhs = number (pos 0) Int }

-- two nodes, each with an edge from each loose end: the condition holds, and it doesn't
abbrev pub fork : Context → Typed → Expression → Draft → Branch
fork c e v s =
    let d : Condition = condition v in
    let first : Draft = add c (assume d.lhs d.relation d.rhs) (place_of e) s in
    let second : Draft = add c (assume d.lhs (opposite d.relation) d.rhs) (place_of e)
    (with_loose s.loose first) in
    record { after = with_loose [] second; yes = first.loose; no = second.loose }

-- ---- temporaries

-- the value of a struct goes by a copy, any other by an assignment
abbrev pub struct_stored : Lvalue → Expression → Command
struct_stored to (read from) = copy to from
struct_stored to e = assign to e

abbrev pub stored : Lvalue → CType → Expression → Command
stored to (structure n) e = struct_stored to e
stored to t e = assign to e

-- a new temporary
abbrev pub temporary : Context → CType → Draft → Left Lvalue
temporary c t s = record {
  after = record s { temporaries = s.temporaries ++ t ∷ [] };
  pure = direct (c.first_temporary + length s.temporaries) t;
}

-- the value goes to a new temporary, by a node of its own
abbrev pub save : Context → CType → Expression → Place → Draft → Left Lvalue
save c t e place s =
    let made : Left Lvalue = temporary c t s in
    left made.pure (add c (stored made.pure t e) place made.after)

-- an earlier operand: it is saved where a later one adds nodes and it holds a read
abbrev pub keep : Context → Bool → Typed → Expression → Draft → Left Expression
keep c later e v s =
    if later && holds_read v then
    (let saved : Left Lvalue = save c (of e) v (place_of e) s in
    left (read saved.pure) saved.after)
    else left v s

-- of an lvalue it is the address that is saved
abbrev pub keep_place : Context → Bool → Typed → Lvalue → Draft → Left Lvalue
keep_place c later e l s =
    if later && lvalue_holds_read l then
    (let saved : Left Lvalue = save c (pointer (of e)) (address l) (place_of e) s in
    left (through (read saved.pure) (of e) (place_of e)) saved.after)
    else left l s
