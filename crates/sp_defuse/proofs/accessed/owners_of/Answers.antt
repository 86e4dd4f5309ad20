use Rattle.std.proofs.Common.{◌≡◌, ◌≤◌, length, take, get_or, [], refl, ap, arith}
use Rattle.sp_effect_rows.specs.Setting.{count}
use Rattle.sp_effect_scene.specs.Analysed.{setting_of}
use Rattle.sp_effect_scene.specs.View.{analysed_of}
use Rattle.sp_transfer.specs.Effects.{defined_at, used_at}
use Rattle.sp_defuse.specs.Accessed.{is_touched}
use Rattle.sp_defuse.proofs.Lists.{each-long}
use Rattle.sp_defuse.specs.Nodes.{IsNode}
use Rattle.sp_defuse.proofs.Adding.{adds-nothing}
use Rattle.sp_defuse.proofs.Touching.{adds-whole, adds-long, touched-more, node-here, location-low}
use Rattle.sp_defuse.proofs.accessed.owners_of.Goals as goal

pub add_function-requires : goal.add_function-requires
add_function-requires c = λ r h.
    let a = analysed_of c.args.analysis.now in
    let ns = c.args.analysis.now.flow.nodes in
    let i = c.loop-node.node-index in
    let is = node-here a ns c.args.sharp c.args.nodes.now i c.node-item.result c.requires c.loop-node-test.true c.node-item.is in
    let cells = c.args.analysis.now.locations.cells in
    let long = adds-long (is_touched a c.args.sharp (take i ns)) c.len.result c.in_ok-sets.sets.items c.loop-node.sets.items c.in_ok-sets.ensures c.loop-node.invariant in
    let many : length c.loop-node.sets.items ≡ count (setting_of a) = omega (arith, long, c.len.ensures, cells.ok, ap length c.args.analysis.now.cells) in
    location-low a ns (defined_at a c.args.sharp (get_or ns i 0)) c.as_slice.result.now c.node-item.result.defs.items (length c.loop-node.sets.items) r c.as_slice.ensures.value is.1.defs many h

pub add_function-requires-in-loop-node : goal.add_function-requires-in-loop-node
add_function-requires-in-loop-node c = λ r h.
    let a = analysed_of c.args.analysis.now in
    let ns = c.args.analysis.now.flow.nodes in
    let i = c.loop-node.node-index in
    let is = node-here a ns c.args.sharp c.args.nodes.now i c.node-item.result c.requires c.loop-node-test.true c.node-item.is in
    let cells = c.args.analysis.now.locations.cells in
    let long = adds-long (is_touched a c.args.sharp (take i ns)) c.len.result c.in_ok-sets.sets.items c.loop-node.sets.items c.in_ok-sets.ensures c.loop-node.invariant in
    let many : length c.add_function.new.sets.items ≡ count (setting_of a) = omega (arith, c.in_ok-add_function.ensures.long, long, c.len.ensures, cells.ok, ap length c.args.analysis.now.cells) in
    location-low a ns (used_at a (get_or ns i 0)) c.as_slice-in-loop-node.result.now c.node-item.result.uses.items (length c.add_function.new.sets.items) r c.as_slice-in-loop-node.ensures.value is.1.uses many h

pub loop-node-init : goal.loop-node-init
loop-node-init c = adds-nothing (is_touched (analysed_of c.args.analysis.now) c.args.sharp []) c.in_ok-sets.sets.items (λ r n. refl)

pub loop-node-preserved : goal.loop-node-preserved
loop-node-preserved c =
    let a = analysed_of c.args.analysis.now in
    let ns = c.args.analysis.now.flow.nodes in
    let i = c.loop-node.node-index in
    let is = node-here a ns c.args.sharp c.args.nodes.now i c.node-item.result c.requires c.loop-node-test.true c.node-item.is in
    touched-more a ns c.args.sharp i c.node-item.result c.in_ok-sets.sets.items c.loop-node.sets.items c.add_function.new.sets.items c.add_function-in-loop-node.new.sets.items c.as_slice.result.now c.as_slice-in-loop-node.result.now c.function_of-function.result
    is.0 is.1 c.as_slice.ensures.value c.as_slice-in-loop-node.ensures.value c.function_of-function.ensures c.loop-node.invariant c.in_ok-add_function.ensures c.in_ok-add_function-2.ensures

pub returns-clause-touched : goal.returns-clause-touched
returns-clause-touched c =
    let a = analysed_of c.args.analysis.now in
    let ns = c.args.analysis.now.flow.nodes in
    let past : length ns ≤ c.loop-node.node-index = omega (arith, c.loop-node-test.false, each-long (IsNode a c.args.sharp) ns c.args.nodes.now c.requires) in
    adds-whole (is_touched a c.args.sharp) ns c.loop-node.node-index c.len.result c.in_ok-sets.sets.items c.loop-node.sets.items past c.in_ok-sets.ensures c.loop-node.invariant

pub returns-clause-long : goal.returns-clause-long
returns-clause-long c =
    let cells = c.args.analysis.now.locations.cells in
    let long = adds-long (is_touched (analysed_of c.args.analysis.now) c.args.sharp (take c.loop-node.node-index c.args.analysis.now.flow.nodes)) c.len.result c.in_ok-sets.sets.items c.loop-node.sets.items c.in_ok-sets.ensures c.loop-node.invariant in
    omega (arith, long, c.len.ensures, cells.ok, ap length c.args.analysis.now.cells)
