use Rattle.sp_run_analysis.proofs.SolvedLaws.{reported}
use Rattle.sp_run_analysis.proofs.dense.solve.Goals as goal

pub returns-in_ok-report-in-Ok-clause-gives : goal.returns-in_ok-report-in-Ok-clause-gives
returns-in_ok-report-in-Ok-clause-gives g c =
    (c.in-Ok.ensures.fits, reported c.args.names.now c.args.wanted _ _ _ _ c.in-Ok.ensures.solved c.in_ok-report-in-Ok.ensures)
