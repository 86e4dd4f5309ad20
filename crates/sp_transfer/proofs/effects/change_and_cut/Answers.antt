use Rattle.std.proofs.Common.{ℕ}
use Rattle.sp_effect_rows.specs.Updates.{store_of}
use Rattle.sp_effect_scene.specs.View.{analysed_of}
use Rattle.sp_transfer.proofs.Cutting.{effect-cut}
use Rattle.sp_transfer.proofs.effects.change_and_cut.Goals as goal

pub returns : goal.returns
returns g c = λ l h.
    let a = analysed_of c.args.analysis.now in
    let s = λ (k : ℕ). g.V.View.store c.args.view.now k in
    effect-cut a c.args.at.now.sharp c.args.node s l (store_of c.args.at.now.places.now c.change_own.new.row l) (store_of c.args.at.now.places.now c.cut.new.row l)
    (c.in_ok-change_own.ensures l h) (c.in_ok-cut.ensures l)
