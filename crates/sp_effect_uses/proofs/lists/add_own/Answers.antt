use Rattle.std.proofs.Common.{◌≡◌, ◌||◌, Some, map, length, sym, ap, ◌∙◌, subst, arith}
use Rattle.std.specs.Prelude.{slice_get}
use Rattle.std.proofs.lemmas.List.{length-map}
use Rattle.sp_lattice.specs.System.{has}
use Rattle.sp_ir.specs.Programs.{lowered_of}
use Rattle.sp_ir.specs.View.{node_of}
use Rattle.sp_points_rules.specs.Puts.{command_in}
use Rattle.sp_effect_rows.specs.Setting.{cell_of}
use Rattle.sp_effect_scene.specs.Analysed.{setting_of}
use Rattle.sp_effect_scene.specs.View.{analysed_of}
use Rattle.sp_transfer.specs.Effects.{defined_by}
use Rattle.sp_transfer.proofs.Nodes.{mapped-at, command-past}
use Rattle.sp_effect_uses.proofs.Steps.{or-none}
use Rattle.sp_effect_uses.proofs.lists.add_own.Goals as goal

pub returns-in_ok-add_defined_by-in-Some : goal.returns-in_ok-add_defined_by-in-Some
returns-in_ok-add_defined_by-in-Some c = λ l.
    let there = subst (λ ns. slice_get (map node_of ns) c.args.node ≡ Some (node_of c.in-Some.found.now)) c.deref.ensures.value (mapped-at node_of c.deref.result.now c.args.node c.in-Some.found.now c.in-Some.ensures.lookup.3.0 c.in-Some.ensures.lookup.1) in
    c.in_ok-add_defined_by-in-Some.ensures l ∙ ap (λ x. has (cell_of (setting_of (analysed_of c.args.analysis.now)) l) c.args.set.now || defined_by (analysed_of c.args.analysis.now) c.args.node (command_in x) l) (sym there)

pub returns-in-None : goal.returns-in-None
returns-in-None c = λ l.
    let past = command-past (lowered_of c.args.analysis.now.lowered).nodes c.args.node (let out = c.in-None.ensures.lookup.3 in omega (arith, out, length-map c.args.analysis.now.lowered.nodes.items node_of, ap length c.deref.ensures.value)) in
    or-none (has (cell_of (setting_of (analysed_of c.args.analysis.now)) l) c.args.set.now) ∙ ap (λ x. has (cell_of (setting_of (analysed_of c.args.analysis.now)) l) c.args.set.now || defined_by (analysed_of c.args.analysis.now) c.args.node x l) (sym past)
