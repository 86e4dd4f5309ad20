use Rattle.std.proofs.Common.{ℕ, map, subst, sym, ap, ◌∙◌, arith}
use Rattle.sp_ir.specs.Programs.{Object, object_of}
use Rattle.sp_ir.specs.View.{leaf_of}
use Rattle.sp_value.specs.Slots.{slot_join}
use Rattle.sp_effect_rows.specs.Updates.{store_of}
use Rattle.sp_effect_scene.specs.View.{analysed_of}
use Rattle.sp_effect_entry.specs.Slots.{initial_slots}
use Rattle.sp_effect_entry.specs.Laws.{AreProper}
use Rattle.sp_effect_entry.proofs.Lists.{all_at, mapped_at}
use Rattle.sp_effect_entry.proofs.Steps.{joins-begun, joins-next, joins-viewed, object_slot}
use Rattle.sp_effect_entry.proofs.starts.join_starts.Goals as goal

pub loop-object-init : goal.loop-object-init
loop-object-init g c = λ k h. joins-begun (λ x. object_slot (analysed_of c.args.analysis.now) (λ n. g.V.View.store c.args.view.now n) k (object_of x)) c.args.objects.now (store_of c.args.places.now c.args.row.now k)

pub join_initial-requires-clause-proper : goal.join_initial-requires-clause-proper
join_initial-requires-clause-proper g c = subst (λ ls. AreProper (map leaf_of ls)) (sym c.deref.ensures.value)
    (all_at (λ (o : Object). AreProper o.start) (map object_of c.args.objects.now) c.requires.proper c.loop-object.object-index (object_of c.object-item.result)
    (mapped_at object_of c.args.objects.now c.loop-object.object-index c.object-item.result c.loop-object-test.true c.object-item.is))

pub loop-object-preserved : goal.loop-object-preserved
loop-object-preserved g c = λ k h.
    let a = analysed_of c.args.analysis.now in
    let s = λ (n : ℕ). g.V.View.store c.args.view.now n in
    joins-next (λ x. object_slot (analysed_of c.args.analysis.now) (λ n. g.V.View.store c.args.view.now n) k (object_of x)) c.args.objects.now c.loop-object.object-index c.object-item.result
    (store_of c.args.places.now c.args.row.now k) (store_of c.args.places.now c.loop-object.row k) (store_of c.args.places.now c.join_initial.new.row k)
    c.loop-object-test.true c.object-item.is (c.loop-object.invariant k h)
    (c.in_ok-join_initial.ensures k h
    ∙ ap (λ ls. slot_join (store_of c.args.places.now c.loop-object.row k) (initial_slots a s (map leaf_of ls) c.deref-in-loop-object.result.now k)) c.deref.ensures.value
    ∙ ap (λ zs. slot_join (store_of c.args.places.now c.loop-object.row k) (initial_slots a s (map leaf_of c.object-item.result.start.items) zs k)) c.deref-in-loop-object.ensures.value)

pub returns : goal.returns
returns g c = λ k h.
    joins-viewed (object_slot (analysed_of c.args.analysis.now) (λ n. g.V.View.store c.args.view.now n) k) object_of c.args.objects.now c.loop-object.object-index
    (store_of c.args.places.now c.args.row.now k) (store_of c.args.places.now c.loop-object.row k) (omega (arith, c.loop-object-test.false)) (c.loop-object.invariant k h)
