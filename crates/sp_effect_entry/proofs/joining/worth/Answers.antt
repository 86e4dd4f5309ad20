use Rattle.sp_ir.specs.View.{expression_of}
use Rattle.sp_value.specs.Slots.{known_of}
use Rattle.sp_effect_scene.specs.View.{analysed_of}
use Rattle.sp_effect_entry.proofs.Seen.{worth-seen}
use Rattle.sp_effect_entry.proofs.joining.worth.Goals as goal

pub stored-requires : goal.stored-requires
stored-requires g c = c.args.analysis.now.points

pub returns : goal.returns
returns g c = worth-seen (analysed_of c.args.analysis.now) c.args.analysis.now.locations.cells.items (λ l. g.V.View.store c.args.view.now l) (expression_of c.args.value.now) (known_of c.in_ok-value.value) c.in_ok-slot.slot
    c.args.analysis.now.cells c.in_ok-value.ensures c.in_ok-slot.ensures
