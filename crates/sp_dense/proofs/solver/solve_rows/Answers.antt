use Rattle.std.proofs.Common.{◌+◌, ◌*◌, ap, length, subst, arith}
use Rattle.sp_lattice.specs.Dense.{table_of}
use Rattle.sp_lattice.specs.Bound.{total_rank}
use Rattle.sp_dense.specs.inner.Visit.{IsWorking}
use Rattle.sp_dense.proofs.Counting.{bounded, falls}
use Rattle.sp_dense.proofs.Visiting.{least_when_done}
use Rattle.sp_dense.proofs.solver.solve_rows.Goals as goal

pub visits-smaller : goal.visits-smaller
visits-smaller g c =
    let o = g.S.Value.Lattice.order in
    let m = g.S.System.meaning c.args.system.now in
    let worked = c.in_ok-work.ensures.worked in
    let before = table_of o.bottom c.visits.rows.items in
    let after = table_of o.bottom c.work.new.rows.items in
    falls m.nodes (total_rank m before) (total_rank m after) (m.nodes * (m.locations * m.height)) (length c.visits.waiting.waiting) (length c.take.new.self.waiting) (length c.work.new.waiting.waiting)
    (omega (arith, ap length c.in-Some.ensures.taken)) worked.paid worked.higher
    (c.solution_laws.ensures.laws.bounded after worked.working.part.held worked.working.part.under)

pub returns-in_err-work-clause-bound : goal.returns-in_err-work-clause-bound
returns-in_err-work-clause-bound g c =
    let o = g.S.Value.Lattice.order in
    let m = g.S.System.meaning c.args.system.now in
    let so_far = c.visits.invariant in
    let table = table_of o.bottom c.visits.rows.items in
    bounded m.nodes (c.visits.steps + length c.visits.waiting.waiting) c.work.new.steps c.args.steps.now (total_rank m table) (m.nodes * (m.locations * m.height)) so_far.counted
    (omega (arith, c.work.ensures.ticked, ap length c.in-Some.ensures.taken))
    (c.solution_laws.ensures.laws.bounded table so_far.working.part.held so_far.working.part.under)

pub returns-clause-least : goal.returns-clause-least
returns-clause-least g c =
    let o = g.S.Value.Lattice.order in
    let m = g.S.System.meaning c.args.system.now in
    let table = table_of o.bottom c.visits.rows.items in
    least_when_done o m g.met.S.Value.Lattice.lawful (g.met.S.System.lawful c.args.system.now) c.solution_laws.ensures.laws table (subst (λ waiting. IsWorking o m table waiting) c.in_default.ensures.empty c.visits.invariant.working)

pub returns-clause-bound : goal.returns-clause-bound
returns-clause-bound g c =
    let o = g.S.Value.Lattice.order in
    let m = g.S.System.meaning c.args.system.now in
    let so_far = c.visits.invariant in
    let table = table_of o.bottom c.visits.rows.items in
    bounded m.nodes (c.visits.steps + length c.visits.waiting.waiting) c.visits.steps c.args.steps.now (total_rank m table) (m.nodes * (m.locations * m.height)) so_far.counted
    (omega arith)
    (c.solution_laws.ensures.laws.bounded table so_far.working.part.held so_far.working.part.under)
