use Rattle.std.proofs.Common.{◌≡◌, ◌↔◌, ◌∙◌, ◌<◌, ℕ, true, length, sym, ap, subst, arith}
use Rattle.sp_ir.specs.Programs.{lowered_of}
use Rattle.sp_base_sets.specs.Sets.{has, Ascends}
use Rattle.sp_graph.specs.Supergraph.{InGraph}
use Rattle.sp_graph.specs.Rows.{AreEdges}
use Rattle.sp_graph.proofs.Calling.{made}
use Rattle.sp_graph.proofs.flow.localise.Goals as goal

pub edges_of-requires-clause-inside : goal.edges_of-requires-clause-inside
edges_of-requires-clause-inside c = λ n h.
    let low : n < length c.args.calls.now = c.requires.inside n (sym (ap (λ g. has n g.nodes) c.flow.view_is) ∙ h) in
    omega (arith, low, ap length c.lists.ensures)

pub returns-clause-graph : goal.returns-clause-graph
returns-clause-graph c = λ graph.
    let p = lowered_of c.args.lowered.now in
    let calls = c.args.calls.now in
    let nodes = c.in_ok-copy.field-0 in
    let same = c.in_ok-copy.ensures ∙ ap (λ g. g.nodes) c.flow.view_is in
    let edges = subst (λ xs. AreEdges p nodes xs true c.in_ok-rows.rows.items) c.lists.ensures (subst (λ ns. AreEdges p ns c.lists.result.now true c.in_ok-rows.rows.items) (sym c.in_ok-copy.ensures) c.in_ok-rows.ensures) in
    made p calls true nodes c.in_ok-rows.rows.items (record { stand_ins = c.accessed.inside.stand_ins.items; sets = c.accessed.inside.sets.items }) c.in_ok-copies.field-0.items
    (subst (λ ns. Ascends ns) (sym same) graph.ascending)
    (subst (λ ns. (n : ℕ) → (has n ns ≡ true) ↔ InGraph p calls n) (sym same) graph.nodes) edges
