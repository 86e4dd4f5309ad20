use Rattle.std.proofs.Common.{◌∙◌, take, get_or, [], refl, sym, ap, arith}
use Rattle.std.proofs.lemmas.List.{length-map}
use Rattle.sp_base_sets.specs.Sets.{has}
use Rattle.sp_base_sets.specs.Reached.{row}
use Rattle.sp_ir.specs.Programs.{code_of}
use Rattle.sp_effect_scene.specs.View.{analysed_of}
use Rattle.sp_defuse.specs.Accessed.{is_called}
use Rattle.sp_defuse.proofs.Adding.{adds-nothing}
use Rattle.sp_defuse.proofs.Touching.{adds-whole, adds-long, called-more, callee-low}
use Rattle.sp_defuse.proofs.accessed.callers_of.Goals as goal

pub add_function-requires : goal.add_function-requires
add_function-requires c = λ r h.
    let a = analysed_of c.args.analysis.now in
    let ns = c.args.nodes.now in
    let i = c.loop-node.node-index in
    let low = callee-low a ns c.args.analysis.now.whole (get_or ns i 0) r (sym (ap (has r) (c.callees.ensures.functions ∙ ap (λ calls. row calls (get_or ns i 0)) c.calls-calls.ensures)) ∙ h) in
    let functions = c.args.analysis.now.lowered.functions in
    let long = adds-long (is_called a (take i ns)) c.len.result c.in_ok-sets.sets.items c.loop-node.sets.items c.in_ok-sets.ensures c.loop-node.invariant in
    omega (arith, low, long, c.len.ensures, functions.ok, length-map functions.items code_of)

pub loop-node-init : goal.loop-node-init
loop-node-init c = adds-nothing (is_called (analysed_of c.args.analysis.now) []) c.in_ok-sets.sets.items (λ r n. refl)

pub loop-node-preserved : goal.loop-node-preserved
loop-node-preserved c =
    let a = analysed_of c.args.analysis.now in
    let ns = c.args.nodes.now in
    let i = c.loop-node.node-index in
    called-more a ns i c.in_ok-sets.sets.items c.loop-node.sets.items c.add_function.new.sets.items c.callees.result.now c.function_of-function.result c.loop-node-test.true
    (c.callees.ensures.functions ∙ ap (λ calls. row calls (get_or ns i 0)) c.calls-calls.ensures) c.function_of-function.ensures c.loop-node.invariant c.in_ok-add_function.ensures

pub returns-clause-called : goal.returns-clause-called
returns-clause-called c =
    let a = analysed_of c.args.analysis.now in
    adds-whole (is_called a) c.args.nodes.now c.loop-node.node-index c.len.result c.in_ok-sets.sets.items c.loop-node.sets.items (omega (arith, c.loop-node-test.false)) c.in_ok-sets.ensures c.loop-node.invariant

pub returns-clause-long : goal.returns-clause-long
returns-clause-long c =
    let functions = c.args.analysis.now.lowered.functions in
    let long = adds-long (is_called (analysed_of c.args.analysis.now) (take c.loop-node.node-index c.args.nodes.now)) c.len.result c.in_ok-sets.sets.items c.loop-node.sets.items c.in_ok-sets.ensures c.loop-node.invariant in
    omega (arith, long, c.len.ensures, functions.ok, length-map functions.items code_of)
