use Rattle.std.proofs.Common.{◌≡◌, ℕ, cond, take}
use Rattle.sp_lattice.specs.System.{has}
use Rattle.sp_effect_rows.specs.Updates.{store_of}
use Rattle.sp_effect_rows.proofs.views.copy_into.Given as goal

-- the first places are copied
abbrev pub invariant-loop-place : goal.invariant-loop-place
invariant-loop-place g l = (k : ℕ) → store_of l.places l.row k ≡ cond (has k (take l.place-index l.places)) (g.V.View.store l.view k) (store_of l.places l.fn.row k)
