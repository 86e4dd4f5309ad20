use Rattle.std.proofs.Common.{◌≡◌, Some, map, length, sym, ap, ◌∙◌, subst, arith}
use Rattle.std.specs.Prelude.{slice_get}
use Rattle.std.proofs.lemmas.List.{length-map}
use Rattle.sp_lattice.specs.System.{has}
use Rattle.sp_ir.specs.Programs.{lowered_of}
use Rattle.sp_ir.specs.View.{node_of}
use Rattle.sp_points_rules.specs.Puts.{command_in, command_at}
use Rattle.sp_effect_rows.specs.Setting.{count}
use Rattle.sp_effect_scene.specs.Analysed.{setting_of}
use Rattle.sp_effect_scene.specs.View.{analysed_of}
use Rattle.sp_transfer.specs.Effects.{defined_by, cut_by}
use Rattle.sp_transfer.proofs.Nodes.{mapped-at, command-past}
use Rattle.sp_transfer.proofs.Cutting.{nothing-cut}
use Rattle.sp_effect_uses.proofs.Listed.{none-low}
use Rattle.sp_effect_uses.proofs.cuts.cut_at.Goals as goal

pub cut_by-requires : goal.cut_by-requires
cut_by-requires c = λ l.
    let there = subst (λ ns. slice_get (map node_of ns) c.args.node ≡ Some (node_of c.in-Some.found.now)) c.deref.ensures.value (mapped-at node_of c.deref.result.now c.args.node c.in-Some.found.now c.in-Some.ensures.lookup.3.0 c.in-Some.ensures.lookup.1) in
    c.requires l ∙ ap (λ x. defined_by (analysed_of c.args.analysis.now) c.args.node (command_in x) l) there

pub returns-in_ok-places-in-Some : goal.returns-in_ok-places-in-Some
returns-in_ok-places-in-Some c = record {
  places = λ l.
      let there = subst (λ ns. slice_get (map node_of ns) c.args.node ≡ Some (node_of c.in-Some.found.now)) c.deref.ensures.value (mapped-at node_of c.deref.result.now c.args.node c.in-Some.found.now c.in-Some.ensures.lookup.3.0 c.in-Some.ensures.lookup.1) in
      c.in_ok-places-in-Some.ensures.places l ∙ ap (λ x. cut_by (analysed_of c.args.analysis.now) c.args.sharp c.args.node (command_in x) l) (sym there);
  low = c.in_ok-places-in-Some.ensures.low;
}

pub returns-in-None : goal.returns-in-None
returns-in-None c = record {
  places = λ l.
      let past = command-past (lowered_of c.args.analysis.now.lowered).nodes c.args.node (let out = c.in-None.ensures.lookup.3 in omega (arith, out, length-map c.args.analysis.now.lowered.nodes.items node_of, ap length c.deref.ensures.value)) in
      ap (has l) c.new.ensures ∙ sym (nothing-cut (analysed_of c.args.analysis.now) c.args.sharp c.args.node (command_at (lowered_of c.args.analysis.now.lowered) c.args.node) l past);
  low = none-low (count (setting_of (analysed_of c.args.analysis.now))) c.new.result c.new.ensures;
}
