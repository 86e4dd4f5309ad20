use Rattle.std.proofs.Common.{ℕ, map, sym, ap, ◌∙◌, subst}
use Rattle.sp_ir.specs.Programs.{object_of}
use Rattle.sp_value.specs.Slots.{slot_join}
use Rattle.sp_effect_rows.specs.Updates.{store_of}
use Rattle.sp_effect_scene.specs.View.{analysed_of}
use Rattle.sp_effect_entry.specs.Slots.{start_slots}
use Rattle.sp_effect_entry.specs.Laws.{AreProperStarts}
use Rattle.sp_effect_entry.proofs.Seen.{whole-proper}
use Rattle.sp_effect_entry.proofs.Results.{started-row}
use Rattle.sp_effect_entry.proofs.starts.begin.Goals as goal

pub join_starts-requires-clause-proper : goal.join_starts-requires-clause-proper
join_starts-requires-clause-proper g c = subst (λ os. AreProperStarts (map object_of os)) (sym c.as_slice-objects.ensures.value) (whole-proper (analysed_of c.args.analysis.now) c.args.analysis.now.whole)

pub returns : goal.returns
returns g c = λ k h. started-row (analysed_of c.args.analysis.now) c.args.analysis.now.whole (λ n. g.V.View.store c.args.view.now n) (λ (n : ℕ). store_of c.args.places.now c.args.row.now n) k (store_of c.args.places.now c.join_starts.new.row k)
    (store_of c.args.places.now c.put_all_outside.new.row k) (sym (c.requires.defs k) ∙ h) (c.in_ok-put_all_outside.ensures k h)
    (c.in_ok-join_starts.ensures k h ∙ ap (λ os. slot_join (store_of c.args.places.now c.put_all_outside.new.row k) (start_slots (analysed_of c.args.analysis.now) (λ n. g.V.View.store c.args.view.now n) (map object_of os) k)) c.as_slice-objects.ensures.value)
