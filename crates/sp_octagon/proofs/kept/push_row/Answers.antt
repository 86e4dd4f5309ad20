use Rattle.std.proofs.Common.{FitsSigned, ◌∙◌, rules}
use Rattle.std.specs.Int.{w128}
use Rattle.std.proofs.lemmas.Int.{to_z-of_z}
use Rattle.sp_octagon.specs.Octagons.{entries}
use Rattle.sp_octagon.proofs.Halves.{row_none, row_more}
use Rattle.sp_octagon.proofs.kept.push_row.Goals as goal

pub columns-init : goal.columns-init
columns-init c = row_none c.args.bounds.now.items (entries c.args.octagon.now c.args.row)

pub columns-preserved : goal.columns-preserved
columns-preserved c =
    let fits : FitsSigned w128 c.bound.result = search rules in
    let pushed = simp to_z-of_z at c.in_ok-push.ensures.items in
    pushed ∙ row_more c.args.bounds.now.items c.columns.bounds.items c.columns.column (entries c.args.octagon.now c.args.row) c.bound.result c.columns.invariant c.bound.ensures.is
