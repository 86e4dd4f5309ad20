use Rattle.std.proofs.Common.{arith}
use Rattle.rows_domain.proofs.Ordered.{ascends-from_each}
use Rattle.rows_domain.proofs.triples.ascends.Goals as goal

pub returns : goal.returns
returns c _ = ascends-from_each c.args.row.now (λ k d low. c.loop-place.invariant k d (omega (arith, low)))
