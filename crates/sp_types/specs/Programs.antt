-- Objects, functions and programs without pointers.
use Rattle.std.specs.Prelude.{ℕ, ℤ, List, Option, option_map, map}
use Rattle.sp_tree.specs.declared.fault.Place.{Place}
use Rattle.sp_types.specs.Types.{CType, Signature, Struct}
use Rattle.sp_types.specs.Typed.{Typed}
use Rattle.sp_types.specs.Statements.{TypedStatement}
use Rattle.sp_types.specs.View.{type_of, shared_signature_of, struct_of}
use Rattle.sp_types.specs.TypedView.{typed_of, statement_of}
use Rattle.sp_types.specs.declared.program.Storage.{Storage}
use Rattle.sp_types.specs.declared.program.Linkage.{Linkage}
use Rattle.sp_types.specs.declared.program.ObjectDef.{ObjectDef}
use Rattle.sp_types.specs.declared.program.FunctionDef.{FunctionDef}
use Rattle.sp_types.specs.declared.program.Program.{Program as CodeProgram}

-- an object: `start` has the numbers of its scalar leaves that have a value, with the values
pub record Object : Type 0 where
  pub name : ℕ
  pub of : CType
  pub storage : Storage
  pub linkage : Linkage
  pub start : List (ℕ × Typed)
  pub place : Place

pub record Function : Type 0 where
  pub name : ℕ
  pub of : Signature
  pub linkage : Linkage
  pub formals : List ℕ
  pub locals : List ℕ
  pub body : Option TypedStatement
  pub place : Place
  pub end : Place

-- functions that are defined come in `definitions` in the order of their text
pub record Program : Type 0 where
  pub structs : List Struct
  pub objects : List Object
  pub functions : List Function
  pub definitions : List ℕ
  pub constants : List ℤ
  pub main : ℕ

abbrev pub object_of : ObjectDef → Object
object_of o = record { name = o.name; of = type_of o.of; storage = o.storage; linkage = o.linkage; start = map (λ s. (s.0, typed_of s.1)) o.start.items; place = o.place }

abbrev pub function_of : FunctionDef → Function
function_of f = record { name = f.name; of = shared_signature_of f.of; linkage = f.linkage; formals = f.formals.items; locals = f.locals.items; body = option_map statement_of f.body; place = f.place; end = f.end }

abbrev pub program_of : CodeProgram → Program
program_of p = record { structs = map struct_of p.structs.items; objects = map object_of p.objects.items; functions = map function_of p.functions.items; definitions = p.definitions.items; constants = p.constants.items; main = p.main }
