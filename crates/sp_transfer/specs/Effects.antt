-- The effect of each node of an analysed program, with the locations that it defines and uses.
use Rattle.std.specs.Prelude.{ℕ, Bool, false, cond, not, ◌&&◌, ◌||◌, List, [], Option, Some, None}
use Rattle.sp_lattice.specs.System.{has}
use Rattle.sp_lattice.specs.declared.relations.Relation.{Relation}
use Rattle.sp_ir.specs.Commands.{Expression, Command, start, entry, exit, skip, assign, copy, init, assume, eval, call, return, library, outside}
use Rattle.sp_ir.specs.Terrain.{terrain_of}
use Rattle.sp_ir.specs.Denoted.{uses_of}
use Rattle.sp_points_rules.specs.Puts.{command_at}
use Rattle.sp_eval.specs.Numbers.{relation_of}
use Rattle.sp_effect_rows.specs.Rows.{Store, Row, applied, untouched}
use Rattle.sp_effect_rows.specs.Setting.{cell_of}
use Rattle.sp_effect_rows.specs.Storing.{may_hit}
use Rattle.sp_effect_assign.specs.Destinations.{destination, assigning, assign_uses}
use Rattle.sp_effect_assume.specs.Conditions.{assuming, assume_defines, assume_uses}
use Rattle.sp_effect_checks.specs.Accesses.{Access, command_accesses}
use Rattle.sp_effect_checks.specs.Cuts.{checked, cut_names}
use Rattle.sp_effect_scene.specs.Analysed.{Analysed, setting_of, scene_of}
use Rattle.sp_effect_entry.specs.Starts.{starting, start_defines, start_uses}
use Rattle.sp_effect_entry.specs.Entries.{entering, entry_defines}
use Rattle.sp_effect_entry.specs.Initials.{initialising, init_defines, init_uses}
use Rattle.sp_effect_call.specs.Copies.{leaf_destination, copying, copy_uses, result_defines}
use Rattle.sp_effect_call.specs.Outside.{from_outside, outside_uses}
use Rattle.sp_effect_call.specs.Passed.{calling, call_defines, call_uses}
use Rattle.sp_effect_call.specs.Returns.{returning, return_uses}
use Rattle.sp_effect_library.specs.Effects.{library_row, library_defines, library_uses}

-- a formed program has no condition of another mark
abbrev pub assuming_by : Analysed → Option Relation → Expression → Expression → Store → Row
assuming_by a None e f = λ s. untouched
assuming_by a (Some op) e f = assuming (scene_of a) e op f

-- what the command of the node n makes of a store
abbrev pub row_of : Analysed → ℕ → Command → Store → Row
row_of a n start = starting a
row_of a n (entry f) = entering a f
row_of a n (exit f) = λ s. untouched
row_of a n skip = λ s. untouched
row_of a n (assign to e) = assigning (scene_of a) to e
row_of a n (copy to from) = copying a to from
row_of a n (init o values zeros) = initialising a o values zeros
row_of a n (assume e op f) = assuming_by a (relation_of op) e f
row_of a n (eval e) = λ s. untouched
row_of a n (call callee args) = calling a n args
row_of a n (return c to) = returning a c to
row_of a n (library which to args site) = library_row a args site which to
row_of a n (outside to args site) = from_outside a to site

-- the locations that it may change
abbrev pub defined_by : Analysed → ℕ → Command → ℕ → Bool
defined_by a n start = start_defines a
defined_by a n (entry f) = entry_defines a f
defined_by a n (exit f) = λ l. false
defined_by a n skip = λ l. false
defined_by a n (assign to e) = may_hit (destination (scene_of a) to)
defined_by a n (copy to from) = may_hit (leaf_destination a to)
defined_by a n (init o values zeros) = init_defines a o
defined_by a n (assume e op f) = assume_defines (scene_of a) e f
defined_by a n (eval e) = λ l. false
defined_by a n (call callee args) = call_defines a n
defined_by a n (return c to) = result_defines a to
defined_by a n (library which to args site) = library_defines a args site which to
defined_by a n (outside to args site) = result_defines a to

-- whether a location's cell is among these regions
abbrev pub is_among : Analysed → List ℕ → ℕ → Bool
is_among a regions l = has (cell_of (setting_of a) l) regions

-- the locations on which what it makes, and what may go wrong there, depends
abbrev pub used_by : Analysed → ℕ → Command → ℕ → Bool
used_by a n start = start_uses a
used_by a n (entry f) = λ l. false
used_by a n (exit f) = λ l. false
used_by a n skip = λ l. false
used_by a n (assign to e) = assign_uses (scene_of a) to e
used_by a n (copy to from) = copy_uses a to from
used_by a n (init o values zeros) = init_uses a o values
used_by a n (assume e op f) = assume_uses (scene_of a) e f
used_by a n (eval e) = is_among a (uses_of (terrain_of a.program) (setting_of a).points_to e)
used_by a n (call callee args) = call_uses a n callee args
used_by a n (return c to) = return_uses a c to
used_by a n (library which to args site) = library_uses a args site which to
used_by a n (outside to args site) = outside_uses a to args

-- ---- what is known behind accesses

-- what a command accesses through pointers; in the sharp mode a run goes on behind an access as its
-- check says, and else nothing is known behind it
abbrev pub accessed_by : Bool → Command → List Access
accessed_by sharp c = cond sharp (command_accesses c) []

-- the locations to which a command may write: a condition writes nothing
abbrev pub written_by : Analysed → ℕ → Command → ℕ → Bool
written_by a n start = start_defines a
written_by a n (entry f) = entry_defines a f
written_by a n (exit f) = λ l. false
written_by a n skip = λ l. false
written_by a n (assign to e) = may_hit (destination (scene_of a) to)
written_by a n (copy to from) = may_hit (leaf_destination a to)
written_by a n (init o values zeros) = init_defines a o
written_by a n (assume e op f) = λ l. false
written_by a n (eval e) = λ l. false
written_by a n (call callee args) = call_defines a n
written_by a n (return c to) = result_defines a to
written_by a n (library which to args site) = library_defines a args site which to
written_by a n (outside to args site) = result_defines a to

-- the locations of which an access leaves what it asks for
abbrev pub cut_by : Analysed → Bool → ℕ → Command → ℕ → Bool
cut_by a sharp n c l = cut_names (scene_of a) (accessed_by sharp c) l && not (written_by a n c l)

-- ---- nodes

-- what the command of a node makes of a store, and what its accesses leave of that
abbrev pub row_at : Analysed → Bool → ℕ → Store → Row
row_at a sharp n = checked (scene_of a) (written_by a n (command_at a.program n))
    (accessed_by sharp (command_at a.program n)) (row_of a n (command_at a.program n))

-- the locations that the command of a node may change, and those that its accesses cut
abbrev pub own_at : Analysed → ℕ → ℕ → Bool
own_at a n = defined_by a n (command_at a.program n)

abbrev pub cut_at : Analysed → Bool → ℕ → ℕ → Bool
cut_at a sharp n = cut_by a sharp n (command_at a.program n)

abbrev pub defined_at : Analysed → Bool → ℕ → ℕ → Bool
defined_at a sharp n l = own_at a n l || cut_at a sharp n l

abbrev pub used_at : Analysed → ℕ → ℕ → Bool
used_at a n = used_by a n (command_at a.program n)

-- what a node makes of the store that reaches it
abbrev pub effect_at : Analysed → Bool → ℕ → Store → Store
effect_at a sharp n s = applied (row_at a sharp n s) s
