use Rattle.std.proofs.Common.{not, ◌&&◌, ◌∙◌, nat_eq, map, sym, ap}
use Rattle.std.specs.List.{list_any}
use Rattle.sp_lattice.specs.System.{has}
use Rattle.sp_ir.specs.View.{command_of}
use Rattle.sp_effect_rows.specs.Setting.{count}
use Rattle.sp_effect_checks.specs.Cuts.{cut_names}
use Rattle.sp_effect_checks.specs.View.{access_of}
use Rattle.sp_effect_scene.specs.Analysed.{setting_of, scene_of}
use Rattle.sp_effect_scene.specs.View.{analysed_of}
use Rattle.sp_effect_uses.proofs.Cut.{cut-others, low-members, unwritten-among}
use Rattle.sp_effect_uses.proofs.cuts.cut_by.Goals as goal

pub returns-clause-places : goal.returns-clause-places
returns-clause-places c = λ l.
    let a = analysed_of c.args.analysis.now in
    let seen = ap (map access_of) c.deref.ensures.value ∙ c.in_ok-accesses.ensures in
    cut-others a c.args.sharp c.args.node (command_of c.args.command.now) c.args.own.now c.deref-2.result.now c.new-places.result c.add_all_unwritten.new.places l
    (sym c.is_condition.ensures ∙ c.if-is_condition.false) c.requires
    (λ k. ap (has k) c.deref-2.ensures.value ∙ c.in_ok-named.ensures.named k ∙ ap (λ xs. cut_names (scene_of a) xs k) seen)
    c.new-places.ensures c.in_ok-add_all_unwritten.ensures

pub returns-clause-low : goal.returns-clause-low
returns-clause-low c =
    low-members (count (setting_of (analysed_of c.args.analysis.now))) (λ k. list_any (λ x. not (has x c.args.own.now) && nat_eq k x) c.deref-2.result.now) c.deref-2.result.now c.new-places.result c.add_all_unwritten.new.places
    c.new-places.ensures c.in_ok-add_all_unwritten.ensures (unwritten-among c.args.own.now c.deref-2.result.now)
    (λ k h. c.in_ok-named.ensures.low k (sym (ap (has k) c.deref-2.ensures.value) ∙ h))
