use Rattle.std.proofs.Common.{◌∙◌, ap}
use Rattle.sp_ir.specs.View.{expression_of}
use Rattle.sp_eval.proofs.Views.{binary-view, compare-view, move-view, distance-view}
use Rattle.sp_effect_scene.specs.View.{analysed_of}
use Rattle.sp_effect_uses.specs.Parts.{Adds, among, read_by}
use Rattle.sp_effect_uses.proofs.Steps.{changed, read-two}
use Rattle.sp_effect_uses.proofs.reads.+reads.Goals as goal

pub add_uses-returns-in_ok-add_uses-in-Binary-2 : goal.add_uses-returns-in_ok-add_uses-in-Binary-2
add_uses-returns-in_ok-add_uses-in-Binary-2 t c =
    read-two (analysed_of c.args.analysis.now) (expression_of c.in-Binary.left.value) (expression_of c.in-Binary.right.value) (expression_of c.args.expr.now)
    c.args.set.now c.add_uses.new.set c.add_uses-in-Binary.new.set
    (ap (λ x. read_by (analysed_of c.args.analysis.now) (expression_of x)) c.in-Binary.is ∙ ap (read_by (analysed_of c.args.analysis.now)) (binary-view c.in-Binary.field-0 c.in-Binary.field-1 c.in-Binary.left c.in-Binary.right c.in-Binary.field-4))
    (changed (λ x. Adds (among (read_by (analysed_of c.args.analysis.now) (expression_of x))) c.args.set.now c.add_uses.new.set) c.deref.ensures c.in_ok-add_uses-in-Binary.ensures)
    (changed (λ x. Adds (among (read_by (analysed_of c.args.analysis.now) (expression_of x))) c.add_uses.new.set c.add_uses-in-Binary.new.set) c.deref-in-Binary.ensures c.in_ok-add_uses-in-Binary-2.ensures)

pub add_uses-returns-in_ok-add_uses-in-Compare-2 : goal.add_uses-returns-in_ok-add_uses-in-Compare-2
add_uses-returns-in_ok-add_uses-in-Compare-2 t c =
    read-two (analysed_of c.args.analysis.now) (expression_of c.in-Compare.left.value) (expression_of c.in-Compare.right.value) (expression_of c.args.expr.now)
    c.args.set.now c.add_uses-in-Compare.new.set c.add_uses-in-Compare-2.new.set
    (ap (λ x. read_by (analysed_of c.args.analysis.now) (expression_of x)) c.in-Compare.is ∙ ap (read_by (analysed_of c.args.analysis.now)) (compare-view c.in-Compare.field-0 c.in-Compare.left c.in-Compare.right))
    (changed (λ x. Adds (among (read_by (analysed_of c.args.analysis.now) (expression_of x))) c.args.set.now c.add_uses-in-Compare.new.set) c.deref-in-Compare.ensures c.in_ok-add_uses-in-Compare.ensures)
    (changed (λ x. Adds (among (read_by (analysed_of c.args.analysis.now) (expression_of x))) c.add_uses-in-Compare.new.set c.add_uses-in-Compare-2.new.set) c.deref-in-Compare-2.ensures c.in_ok-add_uses-in-Compare-2.ensures)

pub add_uses-returns-in_ok-add_uses-in-Move-2 : goal.add_uses-returns-in_ok-add_uses-in-Move-2
add_uses-returns-in_ok-add_uses-in-Move-2 t c =
    read-two (analysed_of c.args.analysis.now) (expression_of c.in-Move.pointer.value) (expression_of c.in-Move.by.value) (expression_of c.args.expr.now)
    c.args.set.now c.add_uses-in-Move.new.set c.add_uses-in-Move-2.new.set
    (ap (λ x. read_by (analysed_of c.args.analysis.now) (expression_of x)) c.in-Move.is ∙ ap (read_by (analysed_of c.args.analysis.now)) (move-view c.in-Move.pointer c.in-Move.by c.in-Move.back c.in-Move.size))
    (changed (λ x. Adds (among (read_by (analysed_of c.args.analysis.now) (expression_of x))) c.args.set.now c.add_uses-in-Move.new.set) c.deref-in-Move.ensures c.in_ok-add_uses-in-Move.ensures)
    (changed (λ x. Adds (among (read_by (analysed_of c.args.analysis.now) (expression_of x))) c.add_uses-in-Move.new.set c.add_uses-in-Move-2.new.set) c.deref-in-Move-2.ensures c.in_ok-add_uses-in-Move-2.ensures)

pub add_uses-returns-in_ok-add_uses-in-Distance-2 : goal.add_uses-returns-in_ok-add_uses-in-Distance-2
add_uses-returns-in_ok-add_uses-in-Distance-2 t c =
    read-two (analysed_of c.args.analysis.now) (expression_of c.in-Distance.left.value) (expression_of c.in-Distance.right.value) (expression_of c.args.expr.now)
    c.args.set.now c.add_uses-in-Distance.new.set c.add_uses-in-Distance-2.new.set
    (ap (λ x. read_by (analysed_of c.args.analysis.now) (expression_of x)) c.in-Distance.is ∙ ap (read_by (analysed_of c.args.analysis.now)) (distance-view c.in-Distance.left c.in-Distance.right c.in-Distance.size))
    (changed (λ x. Adds (among (read_by (analysed_of c.args.analysis.now) (expression_of x))) c.args.set.now c.add_uses-in-Distance.new.set) c.deref-in-Distance.ensures c.in_ok-add_uses-in-Distance.ensures)
    (changed (λ x. Adds (among (read_by (analysed_of c.args.analysis.now) (expression_of x))) c.add_uses-in-Distance.new.set c.add_uses-in-Distance-2.new.set) c.deref-in-Distance-2.ensures c.in_ok-add_uses-in-Distance-2.ensures)
