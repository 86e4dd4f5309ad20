use Rattle.std.proofs.Common.{append_assoc}
use Rattle.sp_eval.proofs.Views.{binary-view, compare-view, move-view, distance-view}
use Rattle.sp_effect_alarms.proofs.Views.{through-view}
use Rattle.sp_effect_alarms.proofs.nodes.+alarms.Goals as goal

pub add_access-returns-in_ok-add_followed-in-Through :
    goal.add_access-returns-in_ok-add_followed-in-Through
add_access-returns-in_ok-add_followed-in-Through g t c =
    rw (c.in-Through.is, through-view c.in-Through.pointer c.in-Through.access c.in-Through.place)
    (rw (c.in_ok-add_expression-in-Through.ensures, append_assoc, c.deref.ensures, c.deref-in-Through.ensures) at c.in_ok-add_followed-in-Through.ensures)

pub add_expression-returns-in_ok-add_division-in-Binary :
    goal.add_expression-returns-in_ok-add_division-in-Binary
add_expression-returns-in_ok-add_division-in-Binary g t c =
    rw (c.in-Binary.is, binary-view c.in-Binary.op c.in-Binary.field-1 c.in-Binary.left c.in-Binary.right c.in-Binary.place, append_assoc)
    (rw (c.in_ok-add_expression-in-Binary-2.ensures, c.in_ok-add_expression-in-Binary.ensures, append_assoc, append_assoc, c.deref.ensures, c.deref-in-Binary.ensures, c.deref-in-Binary-2.ensures) at c.in_ok-add_division-in-Binary.ensures)

pub add_expression-returns-in_ok-add_expression-in-Compare-2 :
    goal.add_expression-returns-in_ok-add_expression-in-Compare-2
add_expression-returns-in_ok-add_expression-in-Compare-2 g t c =
    rw (c.in-Compare.is, compare-view c.in-Compare.field-0 c.in-Compare.left c.in-Compare.right)
    (rw (c.in_ok-add_expression-in-Compare.ensures, append_assoc, c.deref-in-Compare.ensures, c.deref-in-Compare-2.ensures) at c.in_ok-add_expression-in-Compare-2.ensures)

pub add_expression-returns-in_ok-add_expression-in-Move-2 :
    goal.add_expression-returns-in_ok-add_expression-in-Move-2
add_expression-returns-in_ok-add_expression-in-Move-2 g t c =
    rw (c.in-Move.is, move-view c.in-Move.pointer c.in-Move.by c.in-Move.back c.in-Move.size)
    (rw (c.in_ok-add_expression-in-Move.ensures, append_assoc, c.deref-in-Move.ensures, c.deref-in-Move-2.ensures) at c.in_ok-add_expression-in-Move-2.ensures)

pub add_expression-returns-in_ok-add_expression-in-Distance-2 :
    goal.add_expression-returns-in_ok-add_expression-in-Distance-2
add_expression-returns-in_ok-add_expression-in-Distance-2 g t c =
    rw (c.in-Distance.is, distance-view c.in-Distance.left c.in-Distance.right c.in-Distance.size)
    (rw (c.in_ok-add_expression-in-Distance.ensures, append_assoc, c.deref-in-Distance.ensures, c.deref-in-Distance-2.ensures) at c.in_ok-add_expression-in-Distance-2.ensures)
