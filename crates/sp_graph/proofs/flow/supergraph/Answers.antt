use Rattle.std.proofs.Common.{◌≡◌, ◌↔◌, ◌&&◌, ◌∷◌, ℕ, [], true, false, length, get_or, subst}
use Rattle.std.specs.Prelude.{nat_lt}
use Rattle.sp_ir.specs.Programs.{lowered_of}
use Rattle.sp_base_sets.specs.Sets.{has, Ascends}
use Rattle.sp_base_sets.specs.Reached.{Reached}
use Rattle.sp_graph.specs.Calls.{function_of}
use Rattle.sp_graph.specs.Rows.{AreLists, AreEdges, is_inside}
use Rattle.sp_graph.proofs.Calling.{graph_nodes, made}
use Rattle.sp_graph.proofs.flow.supergraph.Goals as goal

pub returns : goal.returns
returns c =
    let p = lowered_of c.args.lowered.now in
    let calls = c.args.calls.now in
    let lists = c.in_ok-lists.lists.items in
    let these = subst (λ xs. AreLists p xs lists) c.lists.ensures c.in_ok-lists.ensures in
    let marks = c.in_ok-is_reached.is_reached.items in
    let nodes = c.in_ok-nodes.nodes in
    let reaches = subst (λ xs. (n : ℕ) → (get_or marks n false ≡ true) ↔ Reached xs (p.main ∷ []) n) c.deref.ensures.value c.in_ok-is_reached.ensures.exact in
    let exact = subst (λ xs. (n : ℕ) → has n nodes ≡ (nat_lt n (length p.nodes) && is_inside xs (function_of p n))) c.deref-2.ensures.value c.in_ok-nodes.ensures in
    let edges = subst (λ xs. AreEdges p nodes xs false c.in_ok-rows.rows.items) c.lists-2.ensures c.in_ok-rows.ensures in
    made p calls false nodes c.in_ok-rows.rows.items c.none.result c.new.result.items (subst (λ xs. Ascends xs) c.nodes.view_is c.nodes.invariant)
    (graph_nodes p calls lists these marks nodes reaches exact) edges
