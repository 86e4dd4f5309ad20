-- Which functions call which, given the functions that each node calls.
use Rattle.std.specs.Prelude.{◌≡◌, ◌⊎◌, ◌<◌, ℕ, true, List, length, Option, Some, None, slice_get}
use Rattle.sp_ir.specs.Commands.{Command, start, entry, exit, skip, assign, copy, init, assume, eval, call, return, library, outside, Node}
use Rattle.sp_ir.specs.Programs.{Lowered, Code}
use Rattle.sp_base_sets.specs.Sets.{has}
use Rattle.sp_base_sets.specs.Reached.{row}

-- the functions that each node calls: a list for each node
abbrev pub Callees : Type 0
Callees = List (List ℕ)

-- ---- what a program tells of a node and of a function

abbrev pub function_in : Option Node → Option ℕ
function_in None = None
function_in (Some node) = node.function

-- the function of a node; none for the start node
abbrev pub function_of : Lowered → ℕ → Option ℕ
function_of p n = function_in (slice_get p.nodes n)

abbrev pub returned_by : Command → Option ℕ
returned_by (return n to) = Some n
returned_by start = None
returned_by (entry f) = None
returned_by (exit f) = None
returned_by skip = None
returned_by (assign to e) = None
returned_by (copy to from) = None
returned_by (init o values zeros) = None
returned_by (assume a op b) = None
returned_by (eval e) = None
returned_by (call callee args) = None
returned_by (library which to args site) = None
returned_by (outside to args site) = None

abbrev pub call_in : Option Node → Option ℕ
call_in None = None
call_in (Some node) = returned_by node.command

-- the call from which a node returns
abbrev pub call_of : Lowered → ℕ → Option ℕ
call_of p n = call_in (slice_get p.nodes n)

abbrev pub entry_in : Option Code → Option ℕ
entry_in None = None
entry_in (Some c) = Some c.entry

-- the node at which a function begins
abbrev pub entry_of : Lowered → ℕ → Option ℕ
entry_of p f = entry_in (slice_get p.functions f)

abbrev pub exit_in : Option Code → Option ℕ
exit_in None = None
exit_in (Some c) = Some c.exit

-- the node at which a function ends
abbrev pub exit_of : Lowered → ℕ → Option ℕ
exit_of p f = exit_in (slice_get p.functions f)

-- ---- calls

-- the lists are of this program: one for each node, and the functions in them are there
pub record AreCallees (p : Lowered) (calls : Callees) : Type 0 where
  pub long : length calls ≡ length p.nodes
  pub low : (n f : ℕ) → has f (row calls n) ≡ true → f < length p.functions

-- a node of the one function calls the other
pub record CallsTo (p : Lowered) (calls : Callees) (from to : ℕ) : Type 0 where
  pub node : ℕ
  pub inside : function_of p node ≡ Some from
  pub calls_it : has to (row calls node) ≡ true

-- calls lead from one function to the other, one call or more
pub data Leads (p : Lowered) (calls : Callees) (from : ℕ) : ℕ → Type 0 where
  direct : {to : ℕ} → CallsTo p calls from to → Leads p calls from to
  onward : {mid to : ℕ} → Leads p calls from mid → CallsTo p calls mid to → Leads p calls from to

-- a function that may be called again before it returns
abbrev pub IsRecursive : Lowered → Callees → ℕ → Type 0
IsRecursive p calls f = Leads p calls f f

-- the function with which the program starts, and what calls lead to from there
abbrev pub IsReached : Lowered → Callees → ℕ → Type 0
IsReached p calls f = (f ≡ p.main) ⊎ Leads p calls p.main f
