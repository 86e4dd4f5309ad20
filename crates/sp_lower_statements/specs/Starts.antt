-- Start values as trees.
use Rattle.std.specs.Prelude.{ℕ, suc, ◌-◌, List, [], ◌∷◌, map, if◌then◌else◌}
use Rattle.sp_types.specs.declared.typed.TypedExpr.{TypedExpr}
use Rattle.sp_types.specs.Typed.{Typed}
use Rattle.sp_types.specs.TypedView.{typed_of}
use Rattle.sp_lower_draft.specs.Adds.{adds}

abbrev pub starts_of : List (ℕ × TypedExpr) → List (ℕ × Typed)
starts_of es = map (λ s. (s.0, typed_of s.1)) es

-- how many of these values add nodes
abbrev pub adding_starts : List (ℕ × Typed) → ℕ
adding_starts [] = 0
adding_starts (e ∷ es) = if adds e.1 then suc (adding_starts es) else adding_starts es

-- so many but one, where this value does
abbrev pub adding_behind : ℕ → Typed → ℕ
adding_behind n e = if adds e then n - 1 else n
