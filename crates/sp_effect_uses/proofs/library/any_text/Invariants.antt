use Rattle.std.proofs.Common.{◌≡◌, false, take}
use Rattle.std.specs.List.{list_any}
use Rattle.sp_ir.specs.Programs.{lowered_of}
use Rattle.sp_points_rules.specs.Paths.{is_text}
use Rattle.sp_effect_uses.proofs.library.any_text.Given as goal

abbrev pub invariant-loop-region : goal.invariant-loop-region
invariant-loop-region l = list_any (is_text (lowered_of l.lowered)) (take l.region-index l.regions) ≡ false
