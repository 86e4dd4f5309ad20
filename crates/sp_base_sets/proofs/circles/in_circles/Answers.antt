use Rattle.std.proofs.Common.{◌∙◌, arith}
use Rattle.sp_base_sets.specs.Circling.{state_of}
use Rattle.sp_base_sets.proofs.Going.{idle_done}
use Rattle.sp_base_sets.proofs.Nowhere.{all_marked}
use Rattle.sp_base_sets.proofs.circles.in_circles.Goals as goal

pub returns : goal.returns
returns c =
    let i = c.roots.invariant in
    let s = state_of c.roots.search in
    all_marked c.args.lists.now s.marks (i.idle.0.path.marks_long ∙ i.idle.0.long) (λ k low. i.idle.0.marked k (idle_done c.args.lists.now s k i.idle (i.seen k (omega (arith, low, c.roots-test.false, c.in-Ok.ensures, c.roots.auto.number-end)))))
