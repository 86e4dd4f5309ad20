-- Where points-to is closed under a command, it is what the command's effect asks for.
use Rattle.std.proofs.Common.{◌≡◌, ℕ, true, nat_eq, refl, subst, eqb-true}
use Rattle.sp_value.specs.Tests.{both, first, second}
use Rattle.sp_base_sets.specs.Sets.{has}
use Rattle.sp_base_sets.proofs.Members.{eqb-refl}
use Rattle.sp_ir.specs.Commands.{Expression, Lvalue, direct, through, field, assign}
use Rattle.sp_ir.specs.Programs.{Lowered}
use Rattle.sp_ir.specs.Terrain.{Terrain, terrain_of}
use Rattle.sp_ir.specs.Denoted.{PointsTo, member_region, regions_of, cells_of}
use Rattle.sp_points_expr.specs.Tables.{Table}
use Rattle.sp_points_rules.specs.Sources.{Base, regions, cells, InBase, InSource}
use Rattle.sp_points_rules.specs.Puts.{all_of}
use Rattle.sp_eval.proofs.Among.{among-filter, among-map}
use Rattle.sp_effect_rows.specs.Setting.{cell_of}
use Rattle.sp_effect_assign.specs.Destinations.{bottom_regions, bottom_accepts, region_under}
use Rattle.sp_effect_assign.specs.Laws.{IsAssignClosed}
use Rattle.sp_effect_scene.specs.Analysed.{Analysed, setting_of, scene_of}
use Rattle.sp_effect_scene.specs.Laws.{IsPutClosed}

-- what is in a base is in the source that takes all of it
pub in-all : (p : Lowered) (u : Table) (b : Base) (r : ℕ) → InBase p u b r → InSource p u (all_of b) r
in-all p u b r h = record { of = r; there = h; narrowed = both (nat_eq r r) true (eqb-refl r) refl }

-- where an lvalue's bottom may be and the access matches, the region under it is one of its cells
pub under-cells : (g : Terrain) (points : PointsTo) (l : Lvalue) (r : ℕ) → has r (bottom_regions g points l) ≡ true → bottom_accepts g l r ≡ true → has (region_under g l r) (cells_of g points l) ≡ true
under-cells g points (direct o t) r m h = m
under-cells g points (through e t at) r m h = among-filter (λ q. g.accepts q t) (regions_of g points e) r h m
under-cells g points (field l k t) r m h = among-map (member_region g k) (cells_of g points l) (region_under g l r) (under-cells g points l r m h)

pub assign-closed : (a : Analysed) (to : Lvalue) (e : Expression) → IsPutClosed a (assign to e) → IsAssignClosed (scene_of a) to e
assign-closed a to e closed r k q m hit n =
    let g = terrain_of a.program in
    let points = (setting_of a).points_to in
    let accepted = first (bottom_accepts g to r) (nat_eq (region_under g to r) (cell_of (setting_of a) k)) hit in
    let same : region_under g to r ≡ cell_of (setting_of a) k = eqb-true (region_under g to r) (cell_of (setting_of a) k) (second (bottom_accepts g to r) (nat_eq (region_under g to r) (cell_of (setting_of a) k)) hit) in
    let there = subst (λ c. has c (cells_of g points to) ≡ true) same (under-cells g points to r m accepted) in
    closed (cell_of (setting_of a) k) q (in-all a.program points (cells to) (cell_of (setting_of a) k) there, in-all a.program points (regions e) q n)
