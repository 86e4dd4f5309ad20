use Rattle.std.proofs.Common.{◌∙◌, ◌||◌, ap}
use Rattle.sp_lattice.specs.System.{has}
use Rattle.sp_ir.specs.View.{lvalue_of}
use Rattle.sp_effect_rows.specs.Setting.{cell_of}
use Rattle.sp_effect_scene.specs.Analysed.{setting_of}
use Rattle.sp_effect_scene.specs.View.{analysed_of}
use Rattle.sp_effect_uses.proofs.Stored.{destination-same}
use Rattle.sp_effect_uses.proofs.writes.add_destination.Goals as goal

pub returns : goal.returns
returns c = λ l.
    c.in_ok-add_places.ensures (cell_of (setting_of (analysed_of c.args.analysis.now)) l)
    ∙ ap (λ b. has (cell_of (setting_of (analysed_of c.args.analysis.now)) l) c.args.set.now || b) (destination-same (analysed_of c.args.analysis.now) (lvalue_of c.args.to.now) l)
