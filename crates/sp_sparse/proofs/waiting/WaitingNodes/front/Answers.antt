use Rattle.std.proofs.Common.{◌∙◌, ◌+◌, take, ap}
use Rattle.std.specs.Prelude.{slice_range}
use Rattle.sp_sparse.specs.inner.Queue.{most_shown}
use Rattle.sp_sparse.proofs.Fronts.{front_is}
use Rattle.sp_sparse.proofs.waiting.WaitingNodes.front.Goals as goal

pub returns : goal.returns
returns c =
    let first = c.self.inside.first in
    let buffer = c.self.inside.buffer.items in
    ap (λ xs. slice_range xs first (first + c.min-count.result)) c.deref.ensures.value
    ∙ front_is buffer first c.self.inside.end most_shown c.min-count.result c.min-count.ensures
    ∙ ap (λ w. take most_shown w.waiting) c.self.view_is
