-- A checked unit without pointers (C90 6.7).
use Rattle.std.specs.Prelude.{ℕ, ℤ, List, map}
use Rattle.sp_tree.specs.declared.fault.Place.{Place}
use Rattle.sp_types.specs.Types.{CType, Struct}
use Rattle.sp_types.specs.Programs.{Object, Function, object_of, function_of}
use Rattle.sp_types.specs.View.{type_of, struct_of}
use Rattle.sp_base_checked.specs.declared.unit.CheckedUnit.{CheckedUnit as CodeUnit}
use Rattle.sp_base_checked.specs.declared.unit.Typing.{Typing as CodeTyping}

-- a declarator that gives an external name its type, or changes it: the name, the type that it has
-- from there on, the composite of those declared by then (6.1.2.6), and the place of the name
pub record Typing : Type 0 where
  pub name : ℕ
  pub of : CType
  pub place : Place

abbrev pub typing_of : CodeTyping → Typing
typing_of t = record { name = t.name; of = type_of t.of; place = t.place }

-- what the unit declares, each in the order of its first declarator, the functions that it defines
-- and the types that its external names take, in the order of their text
pub record CheckedUnit : Type 0 where
  pub structs : List Struct
  pub objects : List Object
  pub functions : List Function
  pub constants : List ℤ
  pub definitions : List ℕ
  pub typings : List Typing

abbrev pub checked_unit_of : CodeUnit → CheckedUnit
checked_unit_of u = record { structs = map struct_of u.structs.items; objects = map object_of u.objects.items; functions = map function_of u.functions.items; constants = u.constants.items; definitions = u.definitions.items; typings = map typing_of u.typings.items }
