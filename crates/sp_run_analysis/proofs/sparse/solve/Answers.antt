use Rattle.sp_run_analysis.proofs.SparseLaws.{reported-sparsely}
use Rattle.sp_run_analysis.proofs.sparse.solve.Goals as goal

pub returns-clause-gives : goal.returns-clause-gives
returns-clause-gives g c =
    let program = c.args.program.now in (
      (_, c.in-Ok.ensures.exact, c.in-Ok.ensures.few),
      reported-sparsely c.args.names.now c.args.wanted _ _ _ _ program.analysis.whole program.equations
          c.solution_laws.ensures.laws.inputs_under c.in_ok-table.ensures.solved c.in_ok-report.ensures,
    )
