use Rattle.std.proofs.Common.{arith}
use Rattle.sp_sparse.proofs.Numbering.{all-given}
use Rattle.sp_sparse.proofs.order.numbered.Goals as goal

pub returns : goal.returns
returns c =
    let ns = c.loop-node-2.numbers in
    all-given c.args.nodes ns.order.items ns.given.items ns.next c.loop-node-2.invariant.given
    (λ n low. c.loop-node-2.invariant.all n (omega (arith, low, c.loop-node-2-test.false)))
