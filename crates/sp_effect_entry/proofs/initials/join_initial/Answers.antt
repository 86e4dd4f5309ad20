use Rattle.std.proofs.Common.{map}
use Rattle.sp_ir.specs.View.{leaf_of}
use Rattle.sp_effect_rows.specs.Updates.{store_of}
use Rattle.sp_effect_scene.specs.View.{analysed_of}
use Rattle.sp_effect_entry.specs.Slots.{leaf_slots, zero_slots}
use Rattle.sp_effect_entry.proofs.Results.{joined-twice}
use Rattle.sp_effect_entry.proofs.initials.join_initial.Goals as goal

pub returns : goal.returns
returns g c = λ k h. joined-twice (store_of c.args.places.now c.args.row.now k) (store_of c.args.places.now c.join_leaves.new.row k) (store_of c.args.places.now c.join_zeros.new.row k)
    (leaf_slots (analysed_of c.args.analysis.now) (λ n. g.V.View.store c.args.view.now n) (map leaf_of c.args.leaves.now) k) (zero_slots (analysed_of c.args.analysis.now) c.args.zeros.now k)
    (c.in_ok-join_leaves.ensures k h) (c.in_ok-join_zeros.ensures k h)
