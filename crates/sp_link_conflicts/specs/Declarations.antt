-- The declarations of external names that units have (C90 6.1.2.2, 6.7).
use Rattle.std.specs.Prelude.{ℕ, suc, Bool, true, false, List, [], ◌++◌, ◌∷◌, map, filter, is_some}
use Rattle.sp_tree.specs.declared.fault.Place.{Place}
use Rattle.sp_types.specs.Types.{CType, function}
use Rattle.sp_types.specs.Programs.{Object, Function}
use Rattle.sp_types.specs.declared.program.Linkage.{Linkage}
use Rattle.sp_types.specs.declared.program.Linkage.TheVariants.{External}
use Rattle.sp_types.specs.declared.program.Storage.{Storage}
use Rattle.sp_types.specs.declared.program.Storage.TheVariants.{Static}
use Rattle.sp_base_checked.specs.Units.{CheckedUnit, Typing}

-- a declaration of an external name: the number of its unit, the name, the type that the name has
-- behind it, whether it is told as the unit's definition, and its place
pub record Declaration : Type 0 where
  pub unit : ℕ
  pub name : ℕ
  pub of : CType
  pub defines : Bool
  pub place : Place

-- 6.1.2.2: external names are those of all units
abbrev pub is_external : Linkage → Bool
is_external External = true
is_external _ = false

-- 6.7.2: the declaration that defines its object; a tentative one does
abbrev pub is_defined : Storage → Bool
is_defined Static = true
is_defined _ = false

abbrev pub object_declared : ℕ → Object → Declaration
object_declared u o = record { unit = u; name = o.name; of = o.of; defines = is_defined o.storage; place = o.place }

abbrev pub function_declared : ℕ → Function → Declaration
function_declared u f = record { unit = u; name = f.name; of = function f.of; defines = is_some f.body; place = f.place }

-- a declarator that gives the name its type or changes it: IncompatibleDeclaration stands there
abbrev pub typing_declared : ℕ → Typing → Declaration
typing_declared u t = record { unit = u; name = t.name; of = t.of; defines = false; place = t.place }

abbrev pub typings_declared : ℕ → List Typing → List Declaration
typings_declared u ts = map (typing_declared u) ts

abbrev pub objects_declared : ℕ → List Object → List Declaration
objects_declared u os = map (object_declared u) (filter (λ o. is_external o.linkage) os)

abbrev pub functions_declared : ℕ → List Function → List Declaration
functions_declared u fs = map (function_declared u) (filter (λ f. is_external f.linkage) fs)

-- those of the unit of a number: the declarators that tell its types, then its objects and its
-- functions as the whole unit has them
abbrev pub unit_declared : ℕ → CheckedUnit → List Declaration
unit_declared u x = typings_declared u x.typings ++ objects_declared u x.objects ++ functions_declared u x.functions

-- those of units, from a number on
abbrev pub declared_from : ℕ → List CheckedUnit → List Declaration
declared_from u [] = []
declared_from u (x ∷ xs) = unit_declared u x ++ declared_from (suc u) xs

abbrev pub declarations : List CheckedUnit → List Declaration
declarations xs = declared_from 0 xs
