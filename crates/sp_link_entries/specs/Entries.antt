-- What several units have together: the objects and functions of their program (C90 6.1.2.2).
use Rattle.std.specs.Prelude.{◌≡◌, ℕ, ℤ, Bool, List, [], ◌∷◌, ◌++◌, Option, map, nat_eq, slice_set, slice_index_or, Result, Ok, Err, ⊤}
use Rattle.indexmap.specs.IndexMap.{insert_entry}
use Rattle.sp_types.specs.Types.{CType, Signature}
use Rattle.sp_types.specs.Programs.{Object, Function}
use Rattle.sp_check_scopes.specs.Scopes.{entry}
use Rattle.sp_check_env.specs.declared.env.Entity.{Entity}

-- an object of the program: its type there, and of its declarations the one that tells all else,
-- with the number of that one's unit, whose structs, objects and functions its trees name; it is
-- incomplete where that unit doesn't tell the members of its struct (6.1.2.5)
pub record ObjectEntry : Type 0 where
  pub of : CType
  pub incomplete : Bool
  pub source : Object
  pub unit : ℕ

-- a function alike
pub record FunctionEntry : Type 0 where
  pub of : Signature
  pub source : Function
  pub unit : ℕ

-- the program's objects and functions by now, each external name with its one object or function,
-- the functions that are defined and the constants
pub record Joined : Type 0 where
  pub objects : List ObjectEntry
  pub functions : List FunctionEntry
  pub links : List (ℕ × Entity)
  pub definitions : List ℕ
  pub constants : List ℤ

-- the program's number of each struct, object and function of a unit
pub record Numbers : Type 0 where
  pub structs : List ℕ
  pub objects : List ℕ
  pub functions : List ℕ

abbrev pub nothing_joined : Joined
nothing_joined = record { objects = []; functions = []; links = []; definitions = []; constants = [] }

abbrev pub linked : Joined → ℕ → Option Entity
linked j n = entry j.links n

abbrev pub with_link : Joined → ℕ → Entity → Joined
with_link j n e = record j { links = insert_entry nat_eq j.links n e }

abbrev pub with_object : Joined → ObjectEntry → Joined
with_object j e = record j { objects = j.objects ++ e ∷ [] }

abbrev pub set_object : Joined → ℕ → ObjectEntry → Joined
set_object j k e = record j { objects = slice_set j.objects k e }

abbrev pub with_function : Joined → FunctionEntry → Joined
with_function j e = record j { functions = j.functions ++ e ∷ [] }

abbrev pub set_function : Joined → ℕ → FunctionEntry → Joined
set_function j k e = record j { functions = slice_set j.functions k e }

-- numbers of a unit as those of the program; 0 where there is none
abbrev pub renumbered : List ℕ → List ℕ → List ℕ
renumbered ns ks = map (λ k. slice_index_or ns k 0) ks

-- the functions that a unit defines, by their numbers in the program, and its constants
abbrev pub with_texts : Joined → List ℕ → List ℤ → Joined
with_texts j ks zs = record j { definitions = j.definitions ++ ks; constants = j.constants ++ zs }

-- the numbers so far with one more
abbrev pub one_more : {A E : Type 0} → List A → A × E → List A × E
one_more xs y = (xs ++ y.0 ∷ [], y.1)

-- what a call of the code answers and leaves behind, where memory doesn't run out
abbrev pub GivesIn : {A B E F : Type 0} → (A → B) → B × E → E → Result A F → Type 0
GivesIn seen given left (Ok x) = given ≡ (seen x, left)
GivesIn seen given left (Err e) = ⊤
