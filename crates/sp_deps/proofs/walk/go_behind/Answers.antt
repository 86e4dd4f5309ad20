use Rattle.sp_deps.proofs.Walks.{finding_found, found_low}
use Rattle.sp_deps.proofs.walk.go_behind.Goals as goal

pub reach_all-requires-clause-nodes : goal.reach_all-requires-clause-nodes
reach_all-requires-clause-nodes g c =
    let s = c.args.system.now in
    let m = g.S.System.meaning s in
    let found = c.in-Some.found.now in
    let is_found = finding_found m c.args.location c.args.earlier.now c.args.node found c.requires.known c.in-Some.ensures in
    found_low g.S.Value.Lattice.order m (g.met.S.System.lawful s) c.args.location c.args.node found is_found
