use Rattle.std.proofs.Common.{◌≡◌, false, take}
use Rattle.std.specs.List.{list_any}
use Rattle.sp_ir.specs.View.{lvalue_of}
use Rattle.sp_effect_scene.specs.View.{analysed_of}
use Rattle.sp_effect_call.specs.Copies.{leaf_destination}
use Rattle.sp_effect_library.proofs.hits.any_hits.Given as goal

abbrev pub invariant-loop-region : goal.invariant-loop-region
invariant-loop-region l = list_any (λ r. (leaf_destination (analysed_of l.analysis) (lvalue_of l.to)).hits r l.location) (take l.region-index l.regions) ≡ false
