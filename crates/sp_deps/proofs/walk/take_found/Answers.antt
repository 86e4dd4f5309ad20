use Rattle.std.proofs.Common.{arith}
use Rattle.sp_deps.proofs.Walks.{waiting_marked, found_marked}
use Rattle.sp_deps.proofs.walk.take_found.Goals as goal

pub unmark-requires : goal.unmark-requires
unmark-requires c = λ k d low.
    let w = c.args.walk.now in
    let one = waiting_marked w c.requires k d low in
    omega (arith, one, w.is_reached.ok.0)

pub unmark-requires-2 : goal.unmark-requires-2
unmark-requires-2 c = λ k d low.
    let w = c.args.walk.now in
    let one = found_marked w c.requires k d low in
    omega (arith, one, w.is_reached.ok.0, c.unmark.ensures.length)
