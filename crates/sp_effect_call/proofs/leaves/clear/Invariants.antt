use Rattle.std.proofs.Common.{◌≡◌, ℕ, cond, take}
use Rattle.sp_lattice.specs.System.{has}
use Rattle.sp_ir.specs.View.{lvalue_of}
use Rattle.sp_effect_rows.specs.Rows.{kept_if}
use Rattle.sp_effect_rows.specs.Storing.{kept_by}
use Rattle.sp_effect_rows.specs.Updates.{store_of}
use Rattle.sp_effect_scene.specs.View.{analysed_of}
use Rattle.sp_effect_call.specs.Copies.{leaf_destination}
use Rattle.sp_effect_call.proofs.leaves.clear.Given as goal

-- the first places have what they keep
abbrev pub invariant-loop-place : goal.invariant-loop-place
invariant-loop-place l = (k : ℕ) → store_of l.places l.row k
    ≡ cond (has k (take l.place-index l.hit)) (kept_if (kept_by (leaf_destination (analysed_of l.analysis) (lvalue_of l.to)) l.targets k) (store_of l.places l.fn.row k)) (store_of l.places l.fn.row k)
