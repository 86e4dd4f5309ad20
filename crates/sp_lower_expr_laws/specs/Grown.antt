-- How a draft goes on where all that is added is formed: by nodes, by a call with its return, by
-- temporaries, by sites with their nodes, by other loose ends, and by edges to a node that is there.
use Rattle.std.specs.Prelude.{◌≡◌, ℕ, Bool, true, false, List, [], length, Option, Some, None, slice_get, All, ⊤}
use Rattle.sp_tree.specs.declared.fault.Place.{Place}
use Rattle.sp_types.specs.Types.{CType}
use Rattle.sp_types.specs.Structs.{IsFormed}
use Rattle.sp_ir.specs.Commands.{Expression, Lvalue, Command, start, entry, exit, call, return, library, outside, Node}
use Rattle.sp_ir.specs.Regions.{Region}
use Rattle.sp_ir.specs.Programs.{Object}
use Rattle.sp_ir.specs.Formed.{IsCommand, may_begin, may_end}
use Rattle.sp_lower_draft.specs.Context.{Context}
use Rattle.sp_lower_draft.specs.Draft.{Draft, next, with_loose, join, add, temporary}
use Rattle.sp_lower_draft.specs.Calls.{next_site, with_site}
use Rattle.sp_lower_expr_laws.specs.Stands.{table, Holds}

-- an edge may begin at this node of the function f
pub record IsEnd (nodes : List Node) (f : ℕ) (n : ℕ) : Type 0 where
  pub node : Node
  pub there : slice_get nodes n ≡ Some node
  pub function : node.function ≡ Some f
  pub begins : may_begin node.command ≡ true

-- an edge may end at it
pub record IsHead (nodes : List Node) (f : ℕ) (n : ℕ) : Type 0 where
  pub node : Node
  pub there : slice_get nodes n ≡ Some node
  pub function : node.function ≡ Some f
  pub ends : may_end node.command ≡ true

abbrev pub AreEnds : Context → Draft → List ℕ → Type 0
AreEnds c s ends = All (IsEnd s.nodes c.function) ends

-- edges may begin at its loose ends
abbrev pub IsReady : Context → Draft → Type 0
IsReady c s = AreEnds c s s.loose

-- a command that stands by itself, in the midst of a function
abbrev pub is_plain : Command → Bool
is_plain start = false
is_plain (entry g) = false
is_plain (exit g) = false
is_plain (call f args) = false
is_plain (return c to) = false
is_plain x = true

-- it gives the object n, which the library makes or which comes from outside
abbrev pub GivesSite : Command → ℕ → Bool → Type 0
GivesSite (library which to args (Some m)) n heap = (m ≡ n) × (heap ≡ true)
GivesSite (outside to args (Some m)) n heap = (m ≡ n) × (heap ≡ false)
GivesSite x n heap = ⊥

abbrev pub IsMaybeFormed : Context → Option CType → Type 0
IsMaybeFormed c None = ⊤
IsMaybeFormed c (Some t) = IsFormed c.structs t

-- the command is formed as the next node
abbrev pub IsNext : Context → List Object → List Region → Draft → Command → Type 0
IsNext c os rs s x = IsCommand (table c os) rs (length s.nodes) (Some c.function) x

pub data Grown (c : Context) (os : List Object) (rs : List Region) : Draft → Draft → Type 0 where
  same : {s : Draft} → Grown c os rs s s
  node : {s t : Draft} (x : Command) (at : Place) → Grown c os rs s t → is_plain x ≡ true
      → (Holds c os t → IsNext c os rs t x) → Grown c os rs s (add c x at t)
  called : {s t : Draft} (callee : Expression) (args : List Expression) (to : Option Lvalue) (at : Place)
      → Grown c os rs s t → (Holds c os t → IsNext c os rs t (call callee args))
      → (Holds c os t → IsNext c os rs t (return (next t) to))
      → Grown c os rs s (add c (return (next t) to) at (with_loose [] (add c (call callee args) at t)))
  made : {s t : Draft} (u : CType) → Grown c os rs s t → IsFormed c.structs u
      → Grown c os rs s (temporary c u t).after
  sited : {s t : Draft} (of : Option CType) (heap : Bool) (x : Command) (at : Place) → Grown c os rs s t
      → IsMaybeFormed c of → GivesSite x (next_site c t) heap
      → (Holds c os (with_site of heap t) → IsNext c os rs t x)
      → Grown c os rs s (add c x at (with_site of heap t))
  turned : {s t : Draft} (ends : List ℕ) → Grown c os rs s t → (IsReady c s → AreEnds c t ends)
      → Grown c os rs s (with_loose ends t)
  joined : {s t : Draft} (ends : List ℕ) (n : ℕ) → Grown c os rs s t
      → (IsReady c s → AreEnds c t ends) → IsHead t.nodes c.function n
      → Grown c os rs s (join n ends t)
