use Rattle.sp_eval.proofs.Wides.{sum_wide, sum-near, difference_wide, difference-near}
use Rattle.sp_effect_checks.proofs.steps.shifted.Goals as goal

pub returns-then-back-clause-value : goal.returns-then-back-clause-value
returns-then-back-clause-value c =
    let left = rw c.in-Of-Of.is-0 at c.requires.formed in
    let right = rw c.in-Of-Of.is-1 at c.requires.wide in
    rw (c.if-back.true, c.in-Of-Of.is-0, c.in-Of-Of.is-1, difference_wide c.in-Of-Of.lo c.in-Of-Of.most left.1 (right.2, right.3), difference_wide c.in-Of-Of.hi c.in-Of-Of.least left.2 (right.0, right.1))

pub returns-then-back-clause-wide : goal.returns-then-back-clause-wide
returns-then-back-clause-wide c =
    let left = rw c.in-Of-Of.is-0 at c.requires.formed in
    let right = rw c.in-Of-Of.is-1 at c.requires.wide in
    let low = difference-near c.in-Of-Of.lo c.in-Of-Of.most left.1 (right.2, right.3) in
    let high = difference-near c.in-Of-Of.hi c.in-Of-Of.least left.2 (right.0, right.1) in
    rw (difference_wide c.in-Of-Of.lo c.in-Of-Of.most left.1 (right.2, right.3), difference_wide c.in-Of-Of.hi c.in-Of-Of.least left.2 (right.0, right.1)) (low.0, low.1, high.0, high.1)

pub returns-else-back-clause-value : goal.returns-else-back-clause-value
returns-else-back-clause-value c =
    let left = rw c.in-Of-Of.is-0 at c.requires.formed in
    let right = rw c.in-Of-Of.is-1 at c.requires.wide in
    rw (c.if-back.false, c.in-Of-Of.is-0, c.in-Of-Of.is-1, sum_wide c.in-Of-Of.lo c.in-Of-Of.least left.1 (right.0, right.1), sum_wide c.in-Of-Of.hi c.in-Of-Of.most left.2 (right.2, right.3))

pub returns-else-back-clause-wide : goal.returns-else-back-clause-wide
returns-else-back-clause-wide c =
    let left = rw c.in-Of-Of.is-0 at c.requires.formed in
    let right = rw c.in-Of-Of.is-1 at c.requires.wide in
    let low = sum-near c.in-Of-Of.lo c.in-Of-Of.least left.1 (right.0, right.1) in
    let high = sum-near c.in-Of-Of.hi c.in-Of-Of.most left.2 (right.2, right.3) in
    rw (sum_wide c.in-Of-Of.lo c.in-Of-Of.least left.1 (right.0, right.1), sum_wide c.in-Of-Of.hi c.in-Of-Of.most left.2 (right.2, right.3)) (low.0, low.1, high.0, high.1)
