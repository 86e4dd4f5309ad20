use Rattle.std.proofs.Common.{◌≡◌, true, take}
use Rattle.sp_ir.specs.Programs.{lowered_of}
use Rattle.sp_base_sets.specs.Sets.{Images}
use Rattle.sp_points_rules.specs.Sources.{narrows}
use Rattle.sp_points_rules.proofs.sources.narrowed.Given as goal

abbrev pub invariant-loop-region : goal.invariant-loop-region
invariant-loop-region l = Images (λ q r. narrows (lowered_of l.facts.lowered.now) l.only q r ≡ true) (take l.region-index l.numbers) l.set
