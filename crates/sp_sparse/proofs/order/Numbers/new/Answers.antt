use Rattle.std.proofs.Common.{replicate, subst, sym}
use Rattle.sp_sparse.specs.inner.Order.{AreGiven}
use Rattle.sp_sparse.proofs.Numbering.{none-given}
use Rattle.sp_sparse.proofs.order.Numbers.new.Goals as goal

pub returns-clause-given : goal.returns-clause-given
returns-clause-given c =
    let order = c.in_ok-vec.ensures.items_if_clones_equal (λ y h. h) in
    let given = c.in_ok-vec-2.ensures.items_if_clones_equal (λ y h. h) in
    subst (λ xs. AreGiven c.args.nodes xs c.in_ok-vec-2.field-0.items 0) (sym order)
    (subst (λ bs. AreGiven c.args.nodes (replicate c.args.nodes 0) bs 0) (sym given) (none-given c.args.nodes))
