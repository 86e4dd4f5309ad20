-- What contracts see of members.
use Rattle.std.specs.Prelude.{ℕ, List, map}
use Rattle.sp_types.specs.Types.{CType}
use Rattle.sp_types.specs.View.{type_of}
use Rattle.sp_types.specs.declared.ctype.CType.{CType as CodeType}

abbrev pub seen_members : List (ℕ × CodeType) → List (ℕ × CType)
seen_members ms = map (λ (m : ℕ × CodeType). (m.0, type_of m.1)) ms
