-- How many of these expressions add nodes.
use Rattle.std.specs.Prelude.{ℕ, ◌-◌, suc, List, [], ◌∷◌, if◌then◌else◌}
use Rattle.sp_types.specs.Typed.{Typed}
use Rattle.sp_lower_draft.specs.Adds.{adds}

abbrev pub adding : List Typed → ℕ
adding [] = 0
adding (e ∷ es) = if adds e then suc (adding es) else adding es

-- so many but one, where this one does
abbrev pub adding_behind : ℕ → Typed → ℕ
adding_behind n e = if adds e then n - 1 else n
