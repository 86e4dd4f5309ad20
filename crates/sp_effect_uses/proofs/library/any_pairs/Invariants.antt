use Rattle.std.proofs.Common.{◌≡◌, false, take}
use Rattle.std.specs.List.{list_any}
use Rattle.sp_ir.specs.Programs.{lowered_of}
use Rattle.sp_points_rules.specs.Paths.{pairs}
use Rattle.sp_effect_uses.proofs.library.any_pairs.Given as goal

abbrev pub invariant-loop-target : goal.invariant-loop-target
invariant-loop-target l = list_any (λ d. pairs (lowered_of l.lowered) d l.source) (take l.target-index l.targets) ≡ false
