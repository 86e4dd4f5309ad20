use Rattle.std.proofs.Common.{ℕ, Bool, ◌&&◌, get_or, refl, ap, ◌∙◌, arith}
use Rattle.std.specs.List.{list_any}
use Rattle.sp_lattice.specs.System.{has}
use Rattle.sp_ir.specs.Terrain.{terrain_of}
use Rattle.sp_ir.specs.View.{lvalue_of}
use Rattle.sp_effect_assign.specs.Destinations.{bottom_regions}
use Rattle.sp_effect_scene.specs.Analysed.{setting_of}
use Rattle.sp_effect_scene.specs.View.{analysed_of}
use Rattle.sp_effect_entry.proofs.Steps.{read-there}
use Rattle.sp_effect_call.specs.Copies.{leaf_destination}
use Rattle.sp_effect_library.proofs.Members.{any-same, picked-more, picked-all}
use Rattle.sp_effect_library.proofs.hits.hit_among.Goals as goal

pub loop-place-preserved : goal.loop-place-preserved
loop-place-preserved c = λ k.
    let p : ℕ → Bool = λ l. list_any (λ r. (leaf_destination (analysed_of c.args.analysis.now) (lvalue_of c.args.to.now)).hits r l) c.as_slice-regions.result.now in
    let x = get_or c.args.places.now c.loop-place.place-index 0 in
    picked-more p c.args.places.now c.loop-place.hit.items c.add_if_hit.new.hit.items c.loop-place.place-index x (p x) c.loop-place-test.true
    (read-there c.args.places.now c.loop-place.place-index 0 x c.loop-place-test.true) refl c.loop-place.invariant c.in_ok-add_if_hit.ensures k

pub returns : goal.returns
returns c = λ l.
    let a = analysed_of c.args.analysis.now in
    let d = leaf_destination a (lvalue_of c.args.to.now) in
    picked-all (λ k. list_any (λ r. d.hits r k) c.as_slice-regions.result.now) c.args.places.now c.loop-place.hit.items c.loop-place.place-index (omega (arith, c.loop-place-test.false)) c.loop-place.invariant l
    ∙ ap (λ b. has l c.args.places.now && b) (any-same (λ r. d.hits r l) c.as_slice-regions.result.now (bottom_regions (terrain_of a.program) (setting_of a).points_to (lvalue_of c.args.to.now))
    (λ x. ap (has x) c.as_slice-regions.ensures.numbers ∙ c.in_ok-bottoms.ensures x))
