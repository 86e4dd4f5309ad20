use Rattle.std.proofs.Common.{◌≡◌, ℕ, cond, take}
use Rattle.sp_lattice.specs.System.{has}
use Rattle.sp_effect_rows.specs.Rows.{kept_if}
use Rattle.sp_effect_rows.specs.Setting.{cell_of}
use Rattle.sp_effect_rows.specs.Updates.{store_of}
use Rattle.sp_effect_scene.specs.Analysed.{setting_of, is_summary}
use Rattle.sp_effect_scene.specs.View.{analysed_of}
use Rattle.sp_effect_call.proofs.passed.empty_strong.Given as goal

-- the first places have what they keep
abbrev pub invariant-loop-place : goal.invariant-loop-place
invariant-loop-place l = (k : ℕ) → store_of l.places l.row k
    ≡ cond (has k (take l.place-index l.places)) (kept_if (is_summary (analysed_of l.analysis).program (analysed_of l.analysis).told (cell_of (setting_of (analysed_of l.analysis)) k)) (store_of l.places l.fn.row k)) (store_of l.places l.fn.row k)
