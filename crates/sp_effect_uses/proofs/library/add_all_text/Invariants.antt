use Rattle.std.proofs.Common.{take, nat_eq, ◌&&◌}
use Rattle.std.specs.List.{list_any}
use Rattle.sp_ir.specs.Programs.{lowered_of}
use Rattle.sp_points_rules.specs.Paths.{is_text}
use Rattle.sp_effect_uses.specs.Parts.{Adds}
use Rattle.sp_effect_uses.proofs.library.add_all_text.Given as goal

abbrev pub invariant-loop-region : goal.invariant-loop-region
invariant-loop-region l = Adds (λ r. list_any (λ x. is_text (lowered_of l.lowered) x && nat_eq x r) (take l.region-index l.regions)) l.fn.set l.set
