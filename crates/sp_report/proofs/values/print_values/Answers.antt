use Rattle.std.proofs.Common.{◌+◌, ◌++◌, get_or, drop, map, refl, ap, ◌∙◌}
use Rattle.sp_ir.specs.Programs.{lowered_of}
use Rattle.sp_report.specs.Values.{values_from}
use Rattle.sp_report.proofs.FromLaws.{values_step}
use Rattle.sp_report.proofs.values.print_values.Goals as goal

pub loop-k-preserved : goal.loop-k-preserved
loop-k-preserved g c =
    let added = rw (c.new-input.ensures.inputs, c.new-input.ensures.node, c.uses_at.ensures) at c.in_ok-add_lines_at.ensures in
    ap (λ ms. ms ++ values_from c.args.names.now (lowered_of c.args.lowered.now) c.args.locations.now.cells.items (g.I.Inputs.given c.args.inputs.now) (map (λ u. u.items) c.args.uses.now) (c.loop-k.k + 1) (drop (c.loop-k.k + 1) c.args.nodes.now)) added
    ∙ values_step c.args.names.now (lowered_of c.args.lowered.now) c.args.locations.now.cells.items (g.I.Inputs.given c.args.inputs.now) (map (λ u. u.items) c.args.uses.now) c.loop-k.k (get_or c.args.nodes.now c.loop-k.k 0) c.args.nodes.now c.loop-k.text.items c.loop-k-test.true refl
    ∙ c.loop-k.invariant
