use Rattle.std.proofs.Common.{ℕ, get_or, take, refl, sym, ap, ◌∙◌, cond, arith}
use Rattle.std.proofs.lemmas.List.{take_all}
use Rattle.sp_lattice.specs.System.{has}
use Rattle.sp_ir.specs.View.{lvalue_of}
use Rattle.sp_effect_rows.specs.Rows.{kept_if}
use Rattle.sp_effect_rows.specs.Storing.{kept_by}
use Rattle.sp_effect_rows.specs.Updates.{store_of}
use Rattle.sp_effect_scene.specs.View.{analysed_of}
use Rattle.sp_effect_entry.proofs.Results.{filled-next}
use Rattle.sp_effect_assign.proofs.Hits.{all-there}
use Rattle.sp_effect_call.specs.Copies.{leaf_destination}
use Rattle.sp_effect_call.proofs.StoringSteps.{kept-again, low-member}
use Rattle.sp_effect_call.proofs.leaves.clear.Goals as goal

pub clear_at-requires-clause-there : goal.clear_at-requires-clause-there
clear_at-requires-clause-there c = c.requires.among (get_or c.args.hit.now c.loop-place.place-index 0) (all-there c.args.hit.now c.loop-place.place-index 0 c.loop-place-test.true)

pub clear_at-requires-clause-low : goal.clear_at-requires-clause-low
clear_at-requires-clause-low c = low-member _ c.args.places.now (get_or c.args.hit.now c.loop-place.place-index 0) c.requires.low
    (c.requires.among (get_or c.args.hit.now c.loop-place.place-index 0) (all-there c.args.hit.now c.loop-place.place-index 0 c.loop-place-test.true))

pub clear_at-requires-clause-hit : goal.clear_at-requires-clause-hit
clear_at-requires-clause-hit c = sym (c.requires.defs (get_or c.args.hit.now c.loop-place.place-index 0)) ∙ all-there c.args.hit.now c.loop-place.place-index 0 c.loop-place-test.true

pub loop-place-preserved : goal.loop-place-preserved
loop-place-preserved c =
    let d = leaf_destination (analysed_of c.args.analysis.now) (lvalue_of c.args.to.now) in
    let at = get_or c.args.hit.now c.loop-place.place-index 0 in
    filled-next (λ (n : ℕ). kept_if (kept_by d c.args.targets.now n) (store_of c.args.places.now c.args.row.now n)) c.args.hit.now c.loop-place.place-index
    (λ (n : ℕ). store_of c.args.places.now c.args.row.now n) (λ (n : ℕ). store_of c.args.places.now c.loop-place.row n) (λ (n : ℕ). store_of c.args.places.now c.clear_at.new.row n)
    c.loop-place-test.true c.loop-place.invariant at refl
    (kept-again (has at (take c.loop-place.place-index c.args.hit.now)) (kept_by d c.args.targets.now at) (store_of c.args.places.now c.loop-place.row at) (store_of c.args.places.now c.args.row.now at) (store_of c.args.places.now c.clear_at.new.row at)
    (c.loop-place.invariant at) c.clear_at.ensures.there)
    c.clear_at.ensures.others

pub returns : goal.returns
returns c = λ k.
    let d = leaf_destination (analysed_of c.args.analysis.now) (lvalue_of c.args.to.now) in
    c.loop-place.invariant k
    ∙ ap (λ ps. cond (has k ps) (kept_if (kept_by d c.args.targets.now k) (store_of c.args.places.now c.args.row.now k)) (store_of c.args.places.now c.args.row.now k))
    (take_all c.loop-place.place-index c.args.hit.now (omega (arith, c.loop-place-test.false)))
