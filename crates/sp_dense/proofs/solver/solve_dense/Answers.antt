use Rattle.std.proofs.Common.{◌∙◌, refl, ap}
use Rattle.sp_lattice.specs.Dense.{input, table_of}
use Rattle.sp_dense.specs.Solution.{cell}
use Rattle.sp_dense.proofs.Cells.{cells_of_rows}
use Rattle.sp_dense.proofs.solver.solve_dense.Goals as goal

pub returns-clause-solved : goal.returns-clause-solved
returns-clause-solved g c =
    let o = g.S.Value.Lattice.order in
    let m = g.S.System.meaning c.args.system.now in
    let outputs = c.in_ok-outputs.outputs.items in
    let inputs = c.in_ok-inputs.inputs.items in
    let dense = table_of o.bottom outputs in
    record {
      dense = dense;
      least = c.in_ok-outputs.ensures.least;
      inputs = λ n l. ap (λ rows. cell rows n l) c.from_rows.ensures.inputs ∙ cells_of_rows o m inputs (input o m dense) c.in_ok-inputs.ensures.grid c.in_ok-inputs.ensures.values n l;
      outputs = λ n l. ap (λ rows. cell rows n l) c.from_rows.ensures.outputs ∙ cells_of_rows o m outputs dense c.in_ok-outputs.ensures.grid (λ _ _ _ _. refl) n l;
    }
