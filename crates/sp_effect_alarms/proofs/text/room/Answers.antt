use Rattle.std.proofs.Common.{sym, subst}
use Rattle.sp_interval.specs.Interval.{IsFormed}
use Rattle.sp_effect_alarms.proofs.Texts.{room_computed, room-formed}
use Rattle.sp_effect_alarms.proofs.text.room.Goals as goal

pub returns-clause-value : goal.returns-clause-value
returns-clause-value c =
    let offset = rw c.in-Of-Of.is-0 at c.requires.offset in
    let size = rw c.in-Of-Of.is-1 at c.requires.size in
    rw (c.in-Of-Of.is-0, c.in-Of-Of.is-1) (room_computed c.in-Of-Of.lo c.in-Of-Of.hi-0 _ c.in-Of-Of.most offset size c.max.result c.max.ensures.value)

pub returns-clause-formed : goal.returns-clause-formed
returns-clause-formed c =
    let offset = rw c.in-Of-Of.is-0 at c.requires.offset in
    let size = rw c.in-Of-Of.is-1 at c.requires.size in
    subst IsFormed (sym (room_computed c.in-Of-Of.lo c.in-Of-Of.hi-0 _ c.in-Of-Of.most offset size c.max.result c.max.ensures.value))
    (room-formed c.in-Of-Of.lo c.in-Of-Of.hi-0 _ c.in-Of-Of.most offset size)
