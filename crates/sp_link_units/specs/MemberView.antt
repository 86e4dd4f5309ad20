-- What the members of a struct of the code stand for.
use Rattle.std.specs.Prelude.{ℕ, List, map, Option, option_map, Vec}
use Rattle.std.specs.declared.alloc.Global.{Global}
use Rattle.sp_types.specs.Types.{CType}
use Rattle.sp_types.specs.View.{type_of}
use Rattle.sp_types.specs.declared.ctype.CType.{CType as CodeType}

abbrev pub members_of : List (ℕ × CodeType) → List (ℕ × CType)
members_of ms = map (λ m. (m.0, type_of m.1)) ms

abbrev pub maybe_members_of : Option (Vec (ℕ × CodeType) Global) → Option (List (ℕ × CType))
maybe_members_of ms = option_map (λ all. members_of all.items) ms
