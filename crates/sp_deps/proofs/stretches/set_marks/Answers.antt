use Rattle.sp_deps.proofs.Stretching.{cleared_more}
use Rattle.sp_deps.proofs.stretches.set_marks.Goals as goal

pub loop-place-preserved : goal.loop-place-preserved
loop-place-preserved c = λ off n h.
    let one = c.set_mark.ensures off n h in
    cleared_more c.args.places.now c.loop-place.place-index 0 n c.loop-place-test.true (c.loop-place.invariant off n one.0) one.1
