use Rattle.std.proofs.Common.{subst, sym}
use Rattle.sp_interval.specs.declared.interval.Interval.TheVariants.{Of}
use Rattle.sp_interval.specs.Interval.{IsFormed}
use Rattle.sp_effect_alarms.proofs.Counting.{outward_computed, outward-formed}
use Rattle.sp_effect_alarms.proofs.bytes.outward.Goals as goal

pub returns-in-Of-clause-value : goal.returns-in-Of-clause-value
returns-in-Of-clause-value c =
    let formed = rw c.in-Of.is at c.requires.formed in
    rw c.in-Of.is (outward_computed c.args.size c.in-Of.lo c.in-Of.hi c.div_euclid.result c.div_euclid-in-Of.result c.from-size.result c.ranges.size.fits c.from-size.ensures formed c.div_euclid.ensures c.div_euclid-in-Of.ensures)

pub returns-in-Of-clause-formed : goal.returns-in-Of-clause-formed
returns-in-Of-clause-formed c =
    let formed = rw c.in-Of.is at c.requires.formed in
    let value = outward_computed c.args.size c.in-Of.lo c.in-Of.hi c.div_euclid.result c.div_euclid-in-Of.result c.from-size.result c.ranges.size.fits c.from-size.ensures formed c.div_euclid.ensures c.div_euclid-in-Of.ensures in
    subst IsFormed (sym value) (outward-formed c.args.size (Of c.in-Of.lo c.in-Of.hi) c.requires.some formed)
