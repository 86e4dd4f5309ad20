use Rattle.std.proofs.Common.{sym, ◌∙◌}
use Rattle.sp_value.specs.SlotLaws.{slot_join-keeps}
use Rattle.sp_value.proofs.slots.SlotLattice.join_into.Goals as goal

pub returns-then-leq-clause-joined : goal.returns-then-leq-clause-joined
returns-then-leq-clause-joined c =
    sym (slot_join-keeps c.args.self.now c.args.other.now (sym c.leq.ensures ∙ c.if-leq.true))
