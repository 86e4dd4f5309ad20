use Rattle.std.proofs.Common.{◌∙◌, ap, refl}
use Rattle.sp_lattice.specs.Dense.{input}
use Rattle.sp_sparse.specs.Solution.{cell}
use Rattle.sp_sparse.proofs.Working.{use_below, def_below}
use Rattle.sp_sparse.proofs.CellLaws.{least_grid, least_table, formed, cells_are}
use Rattle.sp_sparse.proofs.solver.solve_sparse.Goals as goal

pub solve-requires-clause-inputs : goal.solve-requires-clause-inputs
solve-requires-clause-inputs g c =
    let m = g.S.System.meaning c.args.system.now in
    least_grid g.S.Value.Lattice.order.bottom m.nodes m.uses c.in_ok-uses.uses c.in_ok-inputs.inputs c.in_ok-uses.ensures c.in_ok-inputs.ensures

pub solve-requires-clause-least_inputs : goal.solve-requires-clause-least_inputs
solve-requires-clause-least_inputs g c =
    let m = g.S.System.meaning c.args.system.now in
    least_table g.S.Value.Lattice.order.bottom m.nodes m.uses c.in_ok-uses.uses c.in_ok-inputs.inputs c.in_ok-uses.ensures c.in_ok-inputs.ensures

pub from_rows-requires-clause-inputs : goal.from_rows-requires-clause-inputs
from_rows-requires-clause-inputs g c =
    let m = g.S.System.meaning c.args.system.now in
    let sys = g.met.S.System.lawful c.args.system.now in
    formed m.nodes m.uses c.in_ok-uses.uses c.solve.new.inputs c.in_ok-uses.ensures c.in_ok-evaluations.ensures.inputs sys.uses_ascend

pub solve-requires-clause-outputs : goal.solve-requires-clause-outputs
solve-requires-clause-outputs g c =
    let m = g.S.System.meaning c.args.system.now in
    least_grid g.S.Value.Lattice.order.bottom m.nodes m.defs c.in_ok-defs.defs c.in_ok-outputs.outputs c.in_ok-defs.ensures c.in_ok-outputs.ensures

pub solve-requires-clause-least_outputs : goal.solve-requires-clause-least_outputs
solve-requires-clause-least_outputs g c =
    let m = g.S.System.meaning c.args.system.now in
    least_table g.S.Value.Lattice.order.bottom m.nodes m.defs c.in_ok-defs.defs c.in_ok-outputs.outputs c.in_ok-defs.ensures c.in_ok-outputs.ensures

pub from_rows-requires-clause-outputs : goal.from_rows-requires-clause-outputs
from_rows-requires-clause-outputs g c =
    let m = g.S.System.meaning c.args.system.now in
    let sys = g.met.S.System.lawful c.args.system.now in
    formed m.nodes m.defs c.in_ok-defs.defs c.solve.new.outputs c.in_ok-defs.ensures c.in_ok-evaluations.ensures.outputs sys.defs_ascend

pub returns-clause-solved : goal.returns-clause-solved
returns-clause-solved g c =
    let o = g.S.Value.Lattice.order in
    let m = g.S.System.meaning c.args.system.now in
    let laws = g.met.S.Value.Lattice.lawful in
    let sys = g.met.S.System.lawful c.args.system.now in
    let solved = c.in_ok-evaluations.ensures.solved in
    record {
      dense = solved.dense;
      least = solved.least;
      inputs = λ n l. ap (λ cells. cell cells n l) c.from_rows.ensures.inputs ∙ cells_are m.nodes m.uses c.in_ok-uses.uses c.solve.new.inputs c.in_ok-uses.ensures c.in_ok-evaluations.ensures.inputs m o.bottom (input o m solved.dense) refl (λ k j low used. solved.inputs k j low (use_below o m laws sys k j low used) used) n l;
      outputs = λ n l. ap (λ cells. cell cells n l) c.from_rows.ensures.outputs ∙ cells_are m.nodes m.defs c.in_ok-defs.defs c.solve.new.outputs c.in_ok-defs.ensures c.in_ok-evaluations.ensures.outputs m o.bottom solved.dense refl (λ k j low defined. solved.outputs k j low (def_below o m laws sys k j low defined) defined) n l;
    }
