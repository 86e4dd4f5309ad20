-- Which calls of a program are indirect, and how they are written.
use Rattle.std.specs.Prelude.{ℕ, suc, ◌==◌, Bool, true, false, not, cond, if◌then◌else◌}
use Rattle.std.specs.Prelude.{List, [], ◌∷◌, ◌++◌, length, filter, codes, Option, Some, None}
use Rattle.std.specs.Prelude.{slice_get}
use Rattle.std.specs.List.{flat_map}
use Rattle.std.specs.Fmt.{decimal}
use Rattle.sp_ir.specs.Commands.{Expression, number, address, decay, read, convert, unary, binary, compare, move, distance, Lvalue, direct, through, field, Command, start, entry, exit, skip, assign, copy, init, assume, eval, call, return, library, outside, Node}
use Rattle.sp_ir.specs.Programs.{Object, Code, Lowered}
use Rattle.sp_base_sets.specs.Reached.{row}
use Rattle.sp_graph.specs.Calls.{Callees}
use Rattle.sp_report.specs.Texts.{file_name, position_text}

-- ---- which calls

-- an object itself
abbrev pub is_object : Lvalue → Bool
is_object (direct n t) = true
is_object (through e t at) = false
is_object (field l n t) = false

-- a function by its own name: the address of the object that it is
abbrev pub is_name : Expression → Bool
is_name (address l) = is_object l
is_name (number z k) = false
is_name (decay l) = false
is_name (read l) = false
is_name (convert t e) = false
is_name (unary p k e) = false
is_name (binary p k a b at) = false
is_name (compare p a b) = false
is_name (move e by back size) = false
is_name (distance a b size) = false

-- what is called isn't named
abbrev pub is_indirect : Command → Bool
is_indirect (call callee args) = not (is_name callee)
is_indirect start = false
is_indirect (entry f) = false
is_indirect (exit f) = false
is_indirect skip = false
is_indirect (assign l e) = false
is_indirect (copy l m) = false
is_indirect (init o values zeros) = false
is_indirect (assume a p b) = false
is_indirect (eval e) = false
is_indirect (return n l) = false
is_indirect (library which l args site) = false
is_indirect (outside l args site) = false

-- how many of these nodes are indirect calls
abbrev pub count_of : List Node → ℕ
count_of nodes = length (filter (λ (n : Node). is_indirect n.command) nodes)

-- ---- texts

abbrev pub name_in : Option Object → List ℕ
name_in None = []
name_in (Some o) = o.name

abbrev pub name_of : Lowered → Option Code → List ℕ
name_of p None = []
name_of p (Some c) = name_in (slice_get p.objects c.object)

-- a function of the program, by its number
abbrev pub callee_text : Lowered → ℕ → List ℕ
callee_text p f = codes " " ++ name_of p (slice_get p.functions f)

abbrev pub callees_text : Lowered → List ℕ → List ℕ
callees_text p [] = codes " none"
callees_text p (f ∷ fs) = callee_text p f ++ flat_map (callee_text p) fs

abbrev pub count_text : ℕ → List ℕ
count_text n =
    if n == 1 then codes "1 indirect call\n" else decimal n ++ codes " indirect calls\n"

module _ (names : List (List ℕ)) (p : Lowered) where
  -- the line of a node that calls these functions
  abbrev pub call_text : Node → List ℕ → List ℕ
  call_text n callees = file_name names n.place ++ (position_text n.place
      ++ (codes ":" ++ (callees_text p callees ++ codes "\n")))

  -- where it is an indirect call
  abbrev pub node_text : Node → List ℕ → List ℕ
  node_text n callees = cond (is_indirect n.command) (call_text n callees) []

  module _ (calls : Callees) where
    -- the lines of nodes, the first of which has the number k
    abbrev pub lines_from : ℕ → List Node → List ℕ
    lines_from k [] = []
    lines_from k (n ∷ ns) = node_text n (row calls k) ++ lines_from (suc k) ns

    -- the lines of all nodes in their order, and how many there are
    abbrev pub calls_text : List ℕ
    calls_text = lines_from 0 p.nodes ++ count_text (count_of p.nodes)
