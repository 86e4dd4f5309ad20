use Rattle.sp_eval.proofs.Wides.{outward-exact}
use Rattle.sp_effect_checks.proofs.steps.outward.Goals as goal

pub returns-in-Of : goal.returns-in-Of
returns-in-Of c =
    let wide = rw c.in-Of.is at c.requires.wide in
    rw c.in-Of.is (outward-exact c.args.size c.in-Of.lo c.in-Of.hi c.div_euclid.result c.div_euclid-in-Of.result c.from-size.result c.ranges.size.fits c.from-size.ensures (wide.0, wide.1) (wide.2, wide.3) c.div_euclid.ensures c.div_euclid-in-Of.ensures)
