use Rattle.std.proofs.Common.{◌≡◌, ◌∙◌, true, nat_eq, get_or, Some, length, arith}
use Rattle.std.proofs.lemmas.List.{length-map}
use Rattle.sp_ir.specs.Programs.{lowered_of, code_of}
use Rattle.sp_graph.specs.Rows.{Grows}
use Rattle.sp_effect_scene.specs.Analysed.{owner_of}
use Rattle.sp_effect_scene.specs.View.{analysed_of}
use Rattle.sp_effect_uses.proofs.Steps.{changed}
use Rattle.sp_effect_uses.proofs.Local.{grows-begun, grows-more, locals-made}
use Rattle.sp_effect_uses.proofs.locals.local_cells.Goals as goal

pub loop-cell-init : goal.loop-cell-init
loop-cell-init c = grows-begun (owner_of (lowered_of c.args.analysis.now.lowered)) c.as_slice-cells.result.now c.in_ok-sets.sets.items

pub loop-cell-preserved : goal.loop-cell-preserved
loop-cell-preserved c =
    grows-more (owner_of (lowered_of c.args.analysis.now.lowered)) c.as_slice-cells.result.now c.loop-cell.cell-index c.in_ok-sets.sets.items c.loop-cell.sets.items c.add_local.new.sets.items c.loop-cell-test.true c.loop-cell.invariant
    (changed (λ o. Grows (λ f k. (o ≡ Some f) × (nat_eq k (get_or c.as_slice-cells.result.now c.loop-cell.cell-index 0) ≡ true)) c.loop-cell.sets.items c.add_local.new.sets.items) c.owner_of-function.ensures c.in_ok-add_local.ensures)

pub returns : goal.returns
returns c =
    let functions = c.args.analysis.now.lowered.functions in
    let long : c.len.result ≡ length (lowered_of c.args.analysis.now.lowered).functions = omega (arith, c.len.ensures, functions.ok, length-map functions.items code_of) in
    locals-made (analysed_of c.args.analysis.now) c.args.analysis.now.whole c.as_slice-cells.result.now c.loop-cell.cell-index c.len.result c.in_ok-sets.sets.items c.loop-cell.sets.items
    (c.as_slice-cells.ensures.value ∙ c.args.analysis.now.cells) (omega (arith, c.loop-cell-test.false)) c.in_ok-sets.ensures long c.loop-cell.invariant
