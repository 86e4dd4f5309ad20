use Rattle.std.proofs.Common.{◌≡◌, true, sym, subst}
use Rattle.sp_interval.specs.declared.interval.Interval.{Interval}
use Rattle.sp_value.specs.Known.{is_proper_within, every_offset}
use Rattle.sp_effect_alarms.proofs.Texts.{end_computed, end-proper}
use Rattle.sp_effect_alarms.proofs.text.end_offset.Goals as goal

pub returns-clause-value : goal.returns-clause-value
returns-clause-value c =
    let offset = rw c.in-Of-Of.is-0 at c.requires.offset in
    let size = rw c.in-Of-Of.is-1 at c.requires.size in
    rw (c.in-Of-Of.is-0, c.in-Of-Of.is-1) (end_computed c.in-Of-Of.lo c.in-Of-Of.hi _ c.in-Of-Of.most offset size c.max.result c.max.ensures.value)

pub returns-clause-proper : goal.returns-clause-proper
returns-clause-proper c =
    let offset = rw c.in-Of-Of.is-0 at c.requires.offset in
    let size = rw c.in-Of-Of.is-1 at c.requires.size in
    let P : Interval → Type 0 = λ i. is_proper_within every_offset i ≡ true in
    subst P (sym (end_computed c.in-Of-Of.lo c.in-Of-Of.hi _ c.in-Of-Of.most offset size c.max.result c.max.ensures.value))
    (end-proper c.in-Of-Of.lo c.in-Of-Of.hi _ c.in-Of-Of.most offset size)
