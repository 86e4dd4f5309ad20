use Rattle.std.proofs.Common.{rules, FitsSigned, subst}
use Rattle.std.specs.Int.{w128}
use Rattle.std.proofs.lemmas.Int.{to_z-of_z}
use Rattle.sp_interval.specs.declared.interval.Interval.TheVariants.{Of}
use Rattle.sp_interval.specs.Interval.{IsFormed}
use Rattle.sp_octagon.specs.Changes.{bounded_by}
use Rattle.sp_octagon.specs.Octagons.{entries}
use Rattle.sp_octagon.proofs.Proper.{bounded_by-proper}
use Rattle.sp_octagon.proofs.Made.{becomes_made}
use Rattle.sp_octagon.proofs.octagon.Octagon.set_bounds.Goals as goal

pub returns-in-Of : goal.returns-in-Of
returns-in-Of c =
    let lo_fits : FitsSigned w128 c.in-Of.lo = search rules in
    let hi_fits : FitsSigned w128 c.in-Of.hi = search rules in
    let o = c.args.self.now in
    let becomes = simp to_z-of_z at c.lower_to.ensures.becomes in
    let formed = subst IsFormed c.in-Of.is c.requires.formed in
    rw c.in-Of.is (becomes_made o c.lower_to.new.self (bounded_by (entries o) c.args.x (Of c.in-Of.lo c.in-Of.hi))
    (bounded_by-proper o.size c.args.x (Of c.in-Of.lo c.in-Of.hi) (entries o) o.facts.few c.requires.x formed o.facts.matrix) becomes)
