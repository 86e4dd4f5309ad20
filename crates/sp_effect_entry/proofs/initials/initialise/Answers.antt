use Rattle.std.proofs.Common.{ℕ, map, sym, ◌∙◌}
use Rattle.sp_ir.specs.View.{leaf_of}
use Rattle.sp_effect_rows.specs.Updates.{store_of}
use Rattle.sp_effect_scene.specs.View.{analysed_of}
use Rattle.sp_effect_entry.proofs.Results.{initialised-row}
use Rattle.sp_effect_entry.proofs.initials.initialise.Goals as goal

pub returns : goal.returns
returns g c = λ k h. initialised-row (analysed_of c.args.analysis.now) c.args.analysis.now.whole (λ n. g.V.View.store c.args.view.now n) (λ (n : ℕ). store_of c.args.places.now c.args.row.now n) k (store_of c.args.places.now c.join_initial.new.row k)
    c.args.object (map leaf_of c.args.values.now) c.args.zeros.now (store_of c.args.places.now c.empty_unless_shared.new.row k) c.requires.proper (sym (c.requires.defs k) ∙ h)
    (c.in_ok-empty_unless_shared.ensures k h) (c.in_ok-join_initial.ensures k h)
