use Rattle.std.proofs.Common.{ap}
use Rattle.sp_value.specs.Known.{Known}
use Rattle.sp_eval.proofs.Views.{decay-view, read-view, binary-view, compare-view, move-view, distance-view, field-view}
use Rattle.sp_eval.proofs.evaluation.+evaluation.Goals as goal

pub address_of-returns-in_ok-address-in-Field-2 : goal.address_of-returns-in_ok-address-in-Field-2
address_of-returns-in_ok-address-in-Field-2 g t c =
    rw (c.in-Field.is, field-view c.in-Field.of c.in-Field.number c.in-Field.field-2) (rw (c.of.ensures, c.in_ok-address-in-Field-2.ensures, c.in_ok-address-in-Field.ensures, c.deref-in-Field.ensures, c.deref-in-Field-2.ensures, c.deref-in-Field-3.ensures) at c.members_of.ensures)

pub evaluate-returns-in_ok-address-in-Decay-2 : goal.evaluate-returns-in_ok-address-in-Decay-2
evaluate-returns-in_ok-address-in-Decay-2 g t c =
    rw (c.in-Decay.is, decay-view c.in-Decay.of) (rw (c.in_ok-address-in-Decay-2.ensures, c.in_ok-address-in-Decay.ensures) at c.elements_of.ensures)

pub evaluate-returns-in_ok-address-in-Read-2 : goal.evaluate-returns-in_ok-address-in-Read-2
evaluate-returns-in_ok-address-in-Read-2 g t c =
    rw (c.in-Read.is, read-view c.in-Read.of) (rw (c.of.ensures, c.in_ok-address-in-Read-2.ensures, c.in_ok-address-in-Read.ensures) at c.read_at.ensures)

pub evaluate-returns-in_ok-right-in-Binary : goal.evaluate-returns-in_ok-right-in-Binary
evaluate-returns-in_ok-right-in-Binary g t c =
    let left = ap (λ (v : Known). v.numbers) c.in_ok-left-in-Binary.ensures in
    let right = ap (λ (v : Known). v.numbers) c.in_ok-right-in-Binary.ensures in
    rw (c.in-Binary.is, binary-view c.in-Binary.op c.in-Binary.kind c.in-Binary.left c.in-Binary.right c.in-Binary.field-4) (rw (c.operated-numbers.ensures.value, c.range_of-in-Binary.ensures.value, left, right, c.deref-in-Binary.ensures, c.deref-in-Binary-2.ensures) at c.of_numbers-in-Binary.ensures)

pub evaluate-returns-in_ok-right-in-Compare : goal.evaluate-returns-in_ok-right-in-Compare
evaluate-returns-in_ok-right-in-Compare g t c =
    rw (c.in-Compare.is, compare-view c.in-Compare.op c.in-Compare.left c.in-Compare.right) (rw (c.comparison-numbers.ensures.value, c.relation_of.ensures, c.in_ok-left-in-Compare.ensures, c.in_ok-right-in-Compare.ensures, c.deref-in-Compare.ensures, c.deref-in-Compare-2.ensures) at c.of_numbers-in-Compare.ensures)

pub evaluate-returns-in_ok-by-in-Move : goal.evaluate-returns-in_ok-by-in-Move
evaluate-returns-in_ok-by-in-Move g t c =
    rw (c.in-Move.is, move-view c.in-Move.pointer c.in-Move.by c.in-Move.back c.in-Move.size) (rw (c.in_ok-pointer-in-Move.ensures, c.in_ok-by-in-Move.ensures, c.deref-in-Move.ensures, c.deref-in-Move-2.ensures) at c.moved.ensures)

pub evaluate-returns-in_ok-numbers-in-Distance : goal.evaluate-returns-in_ok-numbers-in-Distance
evaluate-returns-in_ok-numbers-in-Distance g t c =
    rw (c.in-Distance.is, distance-view c.in-Distance.left c.in-Distance.right c.in-Distance.size) (rw (c.in_ok-numbers-in-Distance.ensures.value, c.in_ok-left-in-Distance.ensures, c.in_ok-right-in-Distance.ensures, c.deref-in-Distance.ensures, c.deref-in-Distance-2.ensures) at c.of_numbers-in-Distance.ensures)
