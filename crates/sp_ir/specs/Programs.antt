-- Objects, functions and lowered programs without pointers.
use Rattle.std.specs.Prelude.{ℕ, ℤ, List, Option, option_map, map}
use Rattle.sp_types.specs.Types.{CType, Struct}
use Rattle.sp_types.specs.View.{type_of, struct_of}
use Rattle.sp_ir.specs.declared.program.ObjectKind.{ObjectKind}
use Rattle.sp_ir.specs.declared.program.Object.{Object as CodeObject}
use Rattle.sp_ir.specs.declared.program.Code.{Code as CodeFunction}
use Rattle.sp_ir.specs.declared.program.Lowered.{Lowered as CodeLowered}
use Rattle.sp_ir.specs.Commands.{Leaf, Node}
use Rattle.sp_ir.specs.View.{leaf_of, node_of}
use Rattle.sp_ir.specs.Regions.{Region, region_list}

pub record Object : Type 0 where
  pub kind : ObjectKind
  pub of : Option CType
  pub name : List ℕ
  pub function : Option ℕ
  pub start : List Leaf
  pub zero : List ℕ
  pub code : Option ℕ

pub record Code : Type 0 where
  pub entry : ℕ
  pub exit : ℕ
  pub formals : List ℕ
  pub result : Option ℕ
  pub object : ℕ

pub record Lowered : Type 0 where
  pub structs : List Struct
  pub objects : List Object
  pub regions : List Region
  pub functions : List Code
  pub nodes : List Node
  pub flow : List (ℕ × ℕ)
  pub constants : List ℤ
  pub main : ℕ

abbrev pub object_of : CodeObject → Object
object_of o = record {
  kind = o.kind;
  of = option_map type_of o.of;
  name = o.name.items;
  function = o.function;
  start = map leaf_of o.start.items;
  zero = o.zero.items;
  code = o.code;
}

abbrev pub code_of : CodeFunction → Code
code_of f = record {
  entry = f.entry;
  exit = f.exit;
  formals = f.formals.items;
  result = f.result;
  object = f.object;
}

abbrev pub lowered_of : CodeLowered → Lowered
lowered_of p = record {
  structs = map struct_of p.structs.items;
  objects = map object_of p.objects.items;
  regions = region_list p.regions;
  functions = map code_of p.functions.items;
  nodes = map node_of p.nodes.items;
  flow = p.flow.items;
  constants = p.constants.items;
  main = p.main;
}
