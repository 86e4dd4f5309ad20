use Rattle.std.proofs.Common.{FitsSigned, rules}
use Rattle.std.specs.Int.{w128}
use Rattle.sp_effect_alarms.proofs.Leaving.{late}
use Rattle.sp_effect_alarms.proofs.accesses.may_leave.Goals as goal

pub returns-else-lo-lt0 : goal.returns-else-lo-lt0
returns-else-lo-lt0 c =
    let lo_fits : FitsSigned w128 c.in-Of-Of-Of.lo = search rules in
    let least_fits : FitsSigned w128 c.in-Of-Of-Of.least = search rules in
    let offset = rw c.in-Of-Of-Of.is-0 at c.requires.offset in
    let count = rw c.in-Of-Of-Of.is-1 at c.requires.count in
    rw (c.in-Of-Of-Of.is-0, c.in-Of-Of-Of.is-1, c.in-Of-Of-Of.is-2) (late c.in-Of-Of-Of.lo c.in-Of-Of-Of.hi _ c.in-Of-Of-Of.many c.in-Of-Of-Of.least c.in-Of-Of-Of.hi-2 offset count lo_fits least_fits c.if-many-ge1.true c.if-lo-lt0.false)
