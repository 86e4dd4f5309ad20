use Rattle.std.proofs.Common.{ap, ◌∙◌, arith}
use Rattle.sp_value.specs.Locations.{location_of}
use Rattle.sp_effect_assign.proofs.Places.{search-found, search-absent}
use Rattle.sp_effect_assign.proofs.destinations.location_at.Goals as goal

pub returns-clause-some : goal.returns-clause-some
returns-clause-some g c =
    let scene = g.S.Scenery.scene c.args.scene.now in
    search-found scene.setting (g.met.S.Scenery.lawful c.args.scene.now).setting c.args.region (omega (arith, c.ranges.region)) c.location.result
    (c.location.ensures ∙ ap (λ cells. location_of cells c.args.region) c.locations.ensures)

pub returns-clause-none : goal.returns-clause-none
returns-clause-none g c =
    let scene = g.S.Scenery.scene c.args.scene.now in
    search-absent scene.setting (g.met.S.Scenery.lawful c.args.scene.now).setting c.args.region (omega (arith, c.ranges.region)) c.location.result
    (c.location.ensures ∙ ap (λ cells. location_of cells c.args.region) c.locations.ensures)
