use Rattle.std.proofs.Common.{◌∙◌, ◌||◌, Some, ap}
use Rattle.std.specs.List.{list_any}
use Rattle.sp_lattice.specs.System.{has}
use Rattle.sp_types.specs.View.{type_of}
use Rattle.sp_ir.specs.View.{lvalue_of}
use Rattle.sp_effect_rows.specs.Setting.{cell_of}
use Rattle.sp_effect_scene.specs.Analysed.{setting_of}
use Rattle.sp_effect_scene.specs.View.{analysed_of}
use Rattle.sp_effect_call.specs.Copied.{has_cell}
use Rattle.sp_effect_uses.specs.Parts.{assigned_at}
use Rattle.sp_effect_uses.proofs.Steps.{adds-as}
use Rattle.sp_effect_uses.proofs.Stored.{stored_at, stored-same}
use Rattle.sp_effect_uses.proofs.writes.add_stored.Goals as goal

pub returns : goal.returns
returns c = λ l.
    adds-as (λ r. list_any (λ q. has_cell (analysed_of c.args.analysis.now).program (Some (type_of c.of.result.now)) q r) c.as_slice.result.now) (stored_at (analysed_of c.args.analysis.now) (lvalue_of c.args.to.now)) c.args.set.now c.add_each_cells_of.new.set
    (stored-same (analysed_of c.args.analysis.now) (lvalue_of c.args.to.now) (type_of c.of.result.now) c.as_slice.result.now c.of.ensures (λ x. ap (has x) c.as_slice.ensures.numbers ∙ c.in_ok-add_places.ensures x ∙ ap (λ ns. has x ns || assigned_at (analysed_of c.args.analysis.now) (lvalue_of c.args.to.now) x) c.new-places.ensures))
    c.in_ok-add_each_cells_of.ensures (cell_of (setting_of (analysed_of c.args.analysis.now)) l)
