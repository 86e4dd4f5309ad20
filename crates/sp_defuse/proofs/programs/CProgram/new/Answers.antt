use Rattle.std.proofs.Common.{◌∙◌, true, false, length, sym, ap, subst, arith}
use Rattle.std.specs.List.Sorted.{IsStrictlyIncreasing}
use Rattle.sp_graph.specs.Calls.{Callees}
use Rattle.sp_graph.specs.Supergraph.{IsSupergraph}
use Rattle.sp_effect_scene.specs.View.{analysed_of}
use Rattle.sp_defuse.specs.Accessed.{AreAccessed}
use Rattle.sp_defuse.specs.Sources.{IsSources}
use Rattle.sp_defuse.proofs.Lists.{each-long}
use Rattle.sp_defuse.proofs.EquationLaws.{nodes-rise, nodes-few, nodes-low, calls-long, calls-few, numbers-are, equations-known}
use Rattle.sp_defuse.proofs.programs.CProgram.new.Goals as goal

pub localise-requires-clause-few : goal.localise-requires-clause-few
localise-requires-clause-few c =
    let few = calls-few (analysed_of c.args.analysis) c.args.analysis.flow c.args.analysis.graphed c.args.analysis.whole in
    omega (arith, few, ap length c.calls.ensures)

pub localise-requires-clause-long : goal.localise-requires-clause-long
localise-requires-clause-long c = ap length c.calls.ensures ∙ calls-long (analysed_of c.args.analysis) c.args.analysis.flow c.args.analysis.graphed c.args.analysis.whole

pub localise-requires-clause-inside : goal.localise-requires-clause-inside
localise-requires-clause-inside c = λ n h.
    let low = nodes-low (analysed_of c.args.analysis) c.args.analysis.flow c.args.analysis.graphed c.args.analysis.whole n h in
    omega (arith, low, ap length c.calls.ensures)

pub all-requires-clause-ascend : goal.all-requires-clause-ascend
all-requires-clause-ascend c = subst IsStrictlyIncreasing (sym c.in_ok-flow.ensures.nodes) (nodes-rise (analysed_of c.args.analysis) c.args.analysis.flow c.args.analysis.graphed)

pub all-requires-clause-few : goal.all-requires-clause-few
all-requires-clause-few c =
    let few = nodes-few (analysed_of c.args.analysis) c.args.analysis.flow c.args.analysis.graphed c.args.analysis.whole in
    omega (arith, few, ap length c.in_ok-flow.ensures.nodes)

pub invariant_of-result-clause-few : goal.invariant_of-result-clause-few
invariant_of-result-clause-few c =
    let few = nodes-few (analysed_of c.args.analysis) c.args.analysis.flow c.args.analysis.graphed c.args.analysis.whole in
    omega (arith, few, ap length c.in_ok-flow.ensures.nodes)

pub invariant_of-result-clause-same : goal.invariant_of-result-clause-same
invariant_of-result-clause-same c = c.in_ok-flow.ensures.nodes

pub invariant_of-result-clause-numbers : goal.invariant_of-result-clause-numbers
invariant_of-result-clause-numbers c = numbers-are (analysed_of c.args.analysis) c.args.sharp c.args.analysis.flow.nodes c.in_ok-nodes.nodes.items c.in_ok-nodes.ensures ∙ sym c.in_ok-flow.ensures.nodes

pub invariant_of-result-clause-long : goal.invariant_of-result-clause-long
invariant_of-result-clause-long c = each-long (IsSources c.in_ok-flow.flow) c.in_ok-flow.flow.nodes c.in_ok-sources.sources.items c.in_ok-sources.ensures

pub invariant_of-result-clause-joined : goal.invariant_of-result-clause-joined
invariant_of-result-clause-joined c = ∣ c.in_ok-sources.ensures ∣₁

pub invariant_of-result-clause-equations : goal.invariant_of-result-clause-equations
invariant_of-result-clause-equations c =
    let a = analysed_of c.args.analysis in
    let flow = c.args.analysis.flow in
    let g = c.in_ok-flow.flow in
    equations-known a flow c.args.analysis.graphed c.args.sharp g c.in_ok-nodes.nodes.items c.in_ok-sources.sources.items
    (subst (λ (calls : Callees). IsSupergraph a.program calls false flow → IsSupergraph a.program calls true g) c.calls.ensures c.in_ok-flow.ensures.graph)
    c.in_ok-flow.ensures.nodes (c.in_ok-flow.ensures.calls ∙ c.calls.ensures)
    (subst (AreAccessed a c.args.sharp flow.nodes) (sym c.in_ok-flow.ensures.accessed) c.in_ok-accessed.ensures)
    c.in_ok-nodes.ensures c.in_ok-sources.ensures

pub invariant_of-result-clause-made : goal.invariant_of-result-clause-made
invariant_of-result-clause-made c = ∣ c.in_ok-nodes.ensures ∣₁
