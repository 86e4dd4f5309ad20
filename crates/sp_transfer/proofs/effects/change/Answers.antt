use Rattle.std.proofs.Common.{◌≡◌, ℕ, Some, map, length, sym, ap, ◌∙◌, subst, arith}
use Rattle.std.specs.Prelude.{slice_get}
use Rattle.std.proofs.lemmas.List.{length-map}
use Rattle.sp_ir.specs.Programs.{lowered_of}
use Rattle.sp_ir.specs.View.{node_of, command_of}
use Rattle.sp_points_rules.specs.Puts.{command_in}
use Rattle.sp_effect_rows.specs.Rows.{applied}
use Rattle.sp_effect_rows.specs.Updates.{store_of}
use Rattle.sp_effect_rows.proofs.UpdateLaws.{join-nothing}
use Rattle.sp_effect_scene.specs.View.{analysed_of}
use Rattle.sp_transfer.specs.Effects.{row_of, defined_by}
use Rattle.sp_transfer.proofs.Nodes.{mapped-at, node-proper, command-past}
use Rattle.sp_transfer.proofs.effects.change.Goals as goal

pub change_by-requires-clause-proper : goal.change_by-requires-clause-proper
change_by-requires-clause-proper g c =
    let there = subst (λ ns. slice_get (map node_of ns) c.args.node ≡ Some (node_of c.in-Some.found.now)) c.deref.ensures.value (mapped-at node_of c.deref.result.now c.args.node c.in-Some.found.now c.in-Some.ensures.lookup.3.0 c.in-Some.ensures.lookup.1) in
    node-proper (analysed_of c.args.analysis.now) c.args.analysis.now.whole c.args.node (command_of c.in-Some.found.now.command) (ap command_in there)

pub change_by-requires-clause-defs : goal.change_by-requires-clause-defs
change_by-requires-clause-defs g c = λ l.
    let there = subst (λ ns. slice_get (map node_of ns) c.args.node ≡ Some (node_of c.in-Some.found.now)) c.deref.ensures.value (mapped-at node_of c.deref.result.now c.args.node c.in-Some.found.now c.in-Some.ensures.lookup.3.0 c.in-Some.ensures.lookup.1) in
    c.requires.defs l ∙ ap (λ x. defined_by (analysed_of c.args.analysis.now) c.args.node (command_in x) l) there

pub returns-in_ok-change_by-in-Some : goal.returns-in_ok-change_by-in-Some
returns-in_ok-change_by-in-Some g c = λ l h.
    let there = subst (λ ns. slice_get (map node_of ns) c.args.node ≡ Some (node_of c.in-Some.found.now)) c.deref.ensures.value (mapped-at node_of c.deref.result.now c.args.node c.in-Some.found.now c.in-Some.ensures.lookup.3.0 c.in-Some.ensures.lookup.1) in
    c.in_ok-change_by-in-Some.ensures l h
    ∙ ap (λ x. applied (row_of (analysed_of c.args.analysis.now) c.args.node (command_in x) (λ (k : ℕ). g.V.View.store c.args.view.now k)) (λ (k : ℕ). store_of c.args.places.now c.args.row.now k) l) (sym there)

pub returns-in-None : goal.returns-in-None
returns-in-None g c = λ l h.
    let past = command-past (lowered_of c.args.analysis.now.lowered).nodes c.args.node (let out = c.in-None.ensures.lookup.3 in omega (arith, out, length-map c.args.analysis.now.lowered.nodes.items node_of, ap length c.deref.ensures.value)) in
    sym (ap (λ x. applied (row_of (analysed_of c.args.analysis.now) c.args.node x (λ (k : ℕ). g.V.View.store c.args.view.now k)) (λ (k : ℕ). store_of c.args.places.now c.args.row.now k) l) past
    ∙ join-nothing (store_of c.args.places.now c.args.row.now l))
