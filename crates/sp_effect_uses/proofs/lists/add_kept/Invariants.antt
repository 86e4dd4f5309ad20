use Rattle.std.proofs.Common.{take, ◌&&◌, nat_eq}
use Rattle.std.specs.List.{list_any}
use Rattle.sp_effect_scene.specs.View.{analysed_of}
use Rattle.sp_ir.specs.View.{command_of}
use Rattle.sp_effect_uses.specs.Parts.{Adds, keeps_at}
use Rattle.sp_effect_uses.proofs.lists.add_kept.Given as goal

abbrev pub invariant-loop-location : goal.invariant-loop-location
invariant-loop-location l = Adds (λ r. list_any (λ x. keeps_at (analysed_of l.analysis) (command_of l.command) x && nat_eq r x) (take l.location-index l.locations)) l.fn.places l.places
