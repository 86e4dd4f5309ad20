use Rattle.std.proofs.Common.{◌≡◌, Some, true}
use Rattle.sp_ir.specs.Programs.{lowered_of}
use Rattle.sp_ir.specs.View.{expression_of}
use Rattle.sp_ir.specs.Terrain.{terrain_of}
use Rattle.sp_ir.specs.Functions.{function_at}
use Rattle.sp_ir.specs.Denoted.{regions_of}
use Rattle.sp_base_sets.specs.Sets.{has}
use Rattle.sp_points_rules.proofs.Finding.{finds_images}
use Rattle.sp_points_rules.proofs.sources.called.Goals as goal

pub returns-clause-finds : goal.returns-clause-finds
returns-clause-finds c =
    let p = lowered_of c.args.facts.now.lowered.now in
    finds_images c.args.facts.now.rows.now (λ u r. has r (regions_of (terrain_of p) u (expression_of c.args.callee.now)) ≡ true) (λ r f. function_at p r c.args.count ≡ Some f) c.regions.new.seen c.in_ok-found.found c.in_ok-functions.functions
    (record { sound = c.in_ok-found.ensures.sound; whole = c.in_ok-found.ensures.whole }) c.in_ok-functions.ensures
