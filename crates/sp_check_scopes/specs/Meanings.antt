-- What names stand for, without pointers (C90 6.1.2).
use Rattle.std.specs.Prelude.{ℕ, ℤ}
use Rattle.sp_types.specs.Types.{CType}
use Rattle.sp_types.specs.View.{type_of}
use Rattle.sp_check_scopes.specs.declared.meaning.Meaning.{Meaning as CodeMeaning}
use Rattle.sp_check_scopes.specs.declared.meaning.Meaning.TheVariants.{Object, Function, Constant, Named}

-- an object or a function by its number in the tables of the unit, an enumeration constant by its value, or a type
pub data Meaning : Type 0 where
  object : ℕ → Meaning
  function : ℕ → Meaning
  constant : ℤ → Meaning
  named : CType → Meaning

abbrev pub meaning_of : CodeMeaning → Meaning
meaning_of (Object k) = object k
meaning_of (Function k) = function k
meaning_of (Constant z) = constant z
meaning_of (Named t) = named (type_of t)

-- a name with its meaning
abbrev pub named_meaning : ℕ × CodeMeaning → ℕ × Meaning
named_meaning m = (m.0, meaning_of m.1)
