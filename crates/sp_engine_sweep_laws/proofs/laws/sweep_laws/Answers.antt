use Rattle.sp_engine_sweep_laws.proofs.Sweeping.{swept_depends, depends_swept}
use Rattle.sp_engine_sweep_laws.proofs.laws.sweep_laws.Goals as goal

pub returns : goal.returns
returns g c from l to = (swept_depends (g.S.System.meaning c.args._system.now) l from to, depends_swept (g.S.System.meaning c.args._system.now) l from to)
