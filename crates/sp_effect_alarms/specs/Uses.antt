-- The cells that the alarms of a node hang on, by those that each cell may point to: those that its
-- expressions read, and those that are read to find its lvalues.
use Rattle.std.specs.Prelude.{ℕ, List, [], ◌++◌, Option, Some, None}
use Rattle.std.specs.List.{flat_map}
use Rattle.sp_ir.specs.Commands.{Expression, Lvalue, Leaf, Command, start, entry, exit, skip, assign, copy, init, assume, eval, call, return, library, outside, Node}
use Rattle.sp_ir.specs.Programs.{Object, Lowered}
use Rattle.sp_ir.specs.Terrain.{terrain_of}
use Rattle.sp_ir.specs.Denoted.{PointsTo, pointer_uses, uses_of}

module _ (p : Lowered) (points : PointsTo) where
  abbrev pub expression_uses : Expression → List ℕ
  expression_uses e = uses_of (terrain_of p) points e

  abbrev pub lvalue_uses : Lvalue → List ℕ
  lvalue_uses l = pointer_uses (terrain_of p) points l

  abbrev pub list_uses : List Expression → List ℕ
  list_uses es = flat_map expression_uses es

  abbrev pub leaf_uses : List Leaf → List ℕ
  leaf_uses ls = flat_map (λ l. expression_uses l.value) ls

  -- what the start values of objects read
  abbrev pub start_uses : List Object → List ℕ
  start_uses os = flat_map (λ o. leaf_uses o.start) os

  abbrev pub result_uses : Option Lvalue → List ℕ
  result_uses None = []
  result_uses (Some l) = lvalue_uses l

  abbrev pub command_uses : Command → List ℕ
  command_uses start = start_uses p.objects
  command_uses (entry f) = []
  command_uses (exit f) = []
  command_uses skip = []
  command_uses (assign to e) = lvalue_uses to ++ expression_uses e
  command_uses (copy to from) = lvalue_uses to ++ lvalue_uses from
  command_uses (init o values others) = leaf_uses values
  command_uses (assume e op f) = expression_uses e ++ expression_uses f
  command_uses (eval e) = expression_uses e
  command_uses (call callee args) = expression_uses callee ++ list_uses args
  command_uses (return c to) = result_uses to
  command_uses (library r to args site) = result_uses to ++ list_uses args
  command_uses (outside to args site) = result_uses to ++ list_uses args

  abbrev pub node_uses : Node → List ℕ
  node_uses n = command_uses n.command
