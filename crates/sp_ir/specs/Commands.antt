-- Pure expressions, lvalues, commands and nodes without pointers: what contracts and definitions
-- speak of.
use Rattle.std.specs.Prelude.{true, false, ◌||◌, ℕ, ℤ, Bool, List, Option}
use Rattle.sp_tree.specs.declared.fault.Place.{Place}
use Rattle.sp_tree.specs.declared.token.Punct.{Punct}
use Rattle.sp_types.specs.declared.ctype.IntKind.{IntKind}
use Rattle.sp_types.specs.declared.ctype.IntKind.TheVariants.{Int, Long}
use Rattle.sp_types.specs.Types.{CType, void, integer, pointer, array}
use Rattle.sp_ir.specs.declared.command.Routine.{Routine}

mutual
  pub data Expression : Type 0 where
    number : ℤ → IntKind → Expression
    address : Lvalue → Expression
    decay : Lvalue → Expression
    read : Lvalue → Expression
    convert : CType → Expression → Expression
    unary : Punct → IntKind → Expression → Expression
    binary : Punct → IntKind → Expression → Expression → Place → Expression
    compare : Punct → Expression → Expression → Expression
    -- a pointer, by so many elements, whether backwards, and their size
    move : Expression → Expression → Bool → ℕ → Expression
    distance : Expression → Expression → ℕ → Expression

  pub data Lvalue : Type 0 where
    direct : ℕ → CType → Lvalue
    through : Expression → CType → Place → Lvalue
    field : Lvalue → ℕ → CType → Lvalue

-- the value of a scalar leaf: its number, its cell
pub record Leaf : Type 0 where
  pub number : ℕ
  pub cell : ℕ
  pub value : Expression

pub data Command : Type 0 where
  start : Command
  entry : ℕ → Command
  exit : ℕ → Command
  skip : Command
  assign : Lvalue → Expression → Command
  copy : Lvalue → Lvalue → Command
  init : ℕ → List Leaf → List ℕ → Command
  assume : Expression → Punct → Expression → Command
  eval : Expression → Command
  call : Expression → List Expression → Command
  return : ℕ → Option Lvalue → Command
  library : Routine → Option Lvalue → List Expression → Option ℕ → Command
  outside : Option Lvalue → List Expression → Option ℕ → Command

pub record Node : Type 0 where
  pub command : Command
  pub place : Place
  pub function : Option ℕ

-- ---- types

abbrev pub lvalue_type : Lvalue → CType
lvalue_type (direct n t) = t
lvalue_type (through e t at) = t
lvalue_type (field l k t) = t

-- of an array its elements'
abbrev pub element_type : CType → CType
element_type (array t n) = t
element_type t = void

abbrev pub expression_type : Expression → CType
expression_type (number z k) = integer k
expression_type (address l) = pointer (lvalue_type l)
expression_type (decay l) = pointer (element_type (lvalue_type l))
expression_type (read l) = lvalue_type l
expression_type (convert t e) = t
expression_type (unary p k e) = integer k
expression_type (binary p k a b at) = integer k
expression_type (compare p a b) = integer Int
expression_type (move a b back size) = expression_type a
expression_type (distance a b size) = integer Long

-- ---- reads

-- whether a value is read in it: such an expression may change its value where a store changes
abbrev mutual
  pub holds_read : Expression → Bool
  holds_read (number z k) = false
  holds_read (address l) = lvalue_holds_read l
  holds_read (decay l) = lvalue_holds_read l
  holds_read (read l) = true
  holds_read (convert t e) = holds_read e
  holds_read (unary p k e) = holds_read e
  holds_read (binary p k a b at) = holds_read a || holds_read b
  holds_read (compare p a b) = holds_read a || holds_read b
  holds_read (move a b back size) = holds_read a || holds_read b
  holds_read (distance a b size) = holds_read a || holds_read b

  pub lvalue_holds_read : Lvalue → Bool
  lvalue_holds_read (direct n t) = false
  lvalue_holds_read (through e t at) = holds_read e
  lvalue_holds_read (field l n t) = lvalue_holds_read l
