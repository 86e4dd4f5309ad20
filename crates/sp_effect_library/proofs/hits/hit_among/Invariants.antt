use Rattle.std.proofs.Common.{◌≡◌, ℕ, ◌&&◌, take}
use Rattle.std.specs.List.{list_any}
use Rattle.sp_lattice.specs.System.{has}
use Rattle.sp_ir.specs.View.{lvalue_of}
use Rattle.sp_effect_scene.specs.View.{analysed_of}
use Rattle.sp_effect_call.specs.Copies.{leaf_destination}
use Rattle.sp_effect_library.proofs.hits.hit_among.Given as goal

-- those of the first places that are hit
abbrev pub invariant-loop-place : goal.invariant-loop-place
invariant-loop-place l = (k : ℕ) → has k l.hit.items ≡ (has k (take l.place-index l.places)
    && list_any (λ r. (leaf_destination (analysed_of l.analysis) (lvalue_of l.to)).hits r k) l.regions)
