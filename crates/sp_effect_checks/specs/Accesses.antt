-- What a command accesses through pointers, in the order in which its alarms are found.
use Rattle.std.specs.Prelude.{List, [], ◌∷◌, ◌++◌, Option, Some, None}
use Rattle.std.specs.List.{flat_map}
use Rattle.sp_types.specs.Types.{CType}
use Rattle.sp_ir.specs.Commands.{Expression, number, address, decay, read, convert, unary, binary, compare, move, distance, Lvalue, direct, through, field, Leaf, Command, start, entry, exit, skip, assign, copy, init, assume, eval, call, return, library, outside}

-- an access of this type through a pointer
pub record Access : Type 0 where
  pub pointer : Expression
  pub type : CType

abbrev pub access : Expression → CType → Access
access e t = record { pointer = e; type = t }

abbrev mutual
  -- of an lvalue that is read, written or stepped into
  pub accesses_at : Lvalue → List Access
  accesses_at (direct o t) = []
  accesses_at (through e t at) = accesses_in e ++ (access e t ∷ [])
  accesses_at (field l k t) = accesses_at l

  -- of one whose address is taken: a pointer at its top isn't followed (C90 6.3.3.2)
  pub accesses_to : Lvalue → List Access
  accesses_to (direct o t) = []
  accesses_to (through e t at) = accesses_in e
  accesses_to (field l k t) = accesses_at l

  pub accesses_in : Expression → List Access
  accesses_in (number z k) = []
  accesses_in (address l) = accesses_to l
  accesses_in (decay l) = accesses_at l
  accesses_in (read l) = accesses_at l
  accesses_in (convert t e) = accesses_in e
  accesses_in (unary op k e) = accesses_in e
  accesses_in (binary op k e f at) = accesses_in e ++ accesses_in f
  accesses_in (compare op e f) = accesses_in e ++ accesses_in f
  accesses_in (move e f back size) = accesses_in e ++ accesses_in f
  accesses_in (distance e f size) = accesses_in e ++ accesses_in f

abbrev pub leaf_accesses : Leaf → List Access
leaf_accesses l = accesses_in l.value

abbrev pub result_accesses : Option Lvalue → List Access
result_accesses None = []
result_accesses (Some l) = accesses_at l

-- a start, an entry, a call and a return give none: what they pass is another function's
abbrev pub command_accesses : Command → List Access
command_accesses start = []
command_accesses (entry f) = []
command_accesses (exit f) = []
command_accesses skip = []
command_accesses (assign to e) = accesses_at to ++ accesses_in e
command_accesses (copy to from) = accesses_at to ++ accesses_at from
command_accesses (init o values others) = flat_map leaf_accesses values
command_accesses (assume e op f) = accesses_in e ++ accesses_in f
command_accesses (eval e) = accesses_in e
command_accesses (call callee args) = []
command_accesses (return c to) = []
command_accesses (library r to args site) = result_accesses to ++ flat_map accesses_in args
command_accesses (outside to args site) = result_accesses to ++ flat_map accesses_in args
