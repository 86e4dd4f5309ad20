use Rattle.std.proofs.Common.{ℕ, Bool, get_or, take, refl, arith}
use Rattle.sp_lattice.specs.System.{has}
use Rattle.sp_effect_rows.specs.Rows.{kept_if}
use Rattle.sp_effect_rows.specs.Setting.{cell_of}
use Rattle.sp_effect_rows.specs.Updates.{store_of}
use Rattle.sp_effect_scene.specs.Analysed.{setting_of, is_summary}
use Rattle.sp_effect_scene.specs.View.{analysed_of}
use Rattle.sp_effect_entry.proofs.Results.{filled-all, filled-next}
use Rattle.sp_effect_call.proofs.StoringSteps.{kept-again}
use Rattle.sp_effect_call.proofs.passed.empty_strong.Goals as goal

pub loop-place-preserved : goal.loop-place-preserved
loop-place-preserved c =
    let a = analysed_of c.args.analysis.now in
    let keeps : ℕ → Bool = λ n. is_summary a.program a.told (cell_of (setting_of a) n) in
    let at = get_or c.args.places.now c.loop-place.place-index 0 in
    filled-next (λ (n : ℕ). kept_if (keeps n) (store_of c.args.places.now c.args.row.now n)) c.args.places.now c.loop-place.place-index
    (λ (n : ℕ). store_of c.args.places.now c.args.row.now n) (λ (n : ℕ). store_of c.args.places.now c.loop-place.row n) (λ (n : ℕ). store_of c.args.places.now c.empty_at.new.row n)
    c.loop-place-test.true c.loop-place.invariant at refl
    (kept-again (has at (take c.loop-place.place-index c.args.places.now)) (keeps at) (store_of c.args.places.now c.loop-place.row at) (store_of c.args.places.now c.args.row.now at) (store_of c.args.places.now c.empty_at.new.row at)
    (c.loop-place.invariant at) c.empty_at.ensures.there)
    c.empty_at.ensures.others

pub returns : goal.returns
returns c = λ k h.
    let a = analysed_of c.args.analysis.now in
    filled-all c.args.places.now c.loop-place.place-index k (store_of c.args.places.now c.loop-place.row k) (kept_if (is_summary a.program a.told (cell_of (setting_of a) k)) (store_of c.args.places.now c.args.row.now k)) (store_of c.args.places.now c.args.row.now k)
    (omega (arith, c.loop-place-test.false)) h (c.loop-place.invariant k)
