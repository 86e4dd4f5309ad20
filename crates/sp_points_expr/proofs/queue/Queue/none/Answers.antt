use Rattle.std.proofs.Common.{◌++◌, subst, sym, ap, ◌∙◌}
use Rattle.sp_points_expr.specs.Queue.{AreMarked}
use Rattle.sp_points_expr.proofs.Waiting.{waiting_none}
use Rattle.sp_points_expr.proofs.queue.Queue.none.Goals as goal

pub invariant_of-result : goal.invariant_of-result
invariant_of-result c =
    let empty = ap (λ xs. xs ++ c.new.result.items) c.new-2.ensures.items ∙ c.new.ensures.items in
    subst (λ xs. AreMarked c.loop.is_waiting.items xs) (sym empty) (waiting_none c.loop.is_waiting.items c.loop.invariant.none)
