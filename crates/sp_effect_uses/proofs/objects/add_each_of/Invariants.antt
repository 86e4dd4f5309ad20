use Rattle.std.proofs.Common.{take, ◌&&◌, nat_eq}
use Rattle.std.specs.List.{list_any}
use Rattle.std.specs.Prelude.{slice_get}
use Rattle.sp_ir.specs.Programs.{lowered_of}
use Rattle.sp_effect_entry.specs.Initials.{is_of}
use Rattle.sp_effect_uses.specs.Parts.{Adds}
use Rattle.sp_effect_uses.proofs.objects.add_each_of.Given as goal

abbrev pub invariant-loop-region : goal.invariant-loop-region
invariant-loop-region l = Adds (λ r. list_any (λ x. is_of l.object (slice_get (lowered_of l.lowered).regions x) && nat_eq r x) (take l.region-index l.regions)) l.fn.set l.set
