use Rattle.std.proofs.Common.{rules, FitsSigned, ◌≡◌, ◌∙◌, ap, sym, subst, ◌*◌, ◌+◌, pos, ◌-ℤ◌, neg_ℤ, arith}
use Rattle.std.specs.Int.{w128, int_min, int_max}
use Rattle.std.proofs.lemmas.Int.{to_z-of_z, ints}
use Rattle.sp_lattice.specs.Ladder.{lowest, highest, InBounds}
use Rattle.sp_interval.specs.declared.interval.Interval.{Interval}
use Rattle.sp_interval.specs.Interval.{between, IsFormed, Holds}
use Rattle.sp_octagon.specs.Entries.{half}
use Rattle.sp_octagon.specs.Changes.{Allows}
use Rattle.sp_octagon.specs.Octagons.{entries}
use Rattle.sp_octagon.proofs.Numbers.{half-is}
use Rattle.sp_octagon.proofs.ChangeLaws.{projected-formed, projected-exact}
use Rattle.sp_octagon.proofs.octagon.Octagon.project.Goals as goal

pub returns-clause-value : goal.returns-clause-value
returns-clause-value c =
    let below_fits : FitsSigned w128 c.bound-below.result = search rules in
    let above_fits : FitsSigned w128 c.bound-above.result = search rules in
    let a = c.bound-below.ensures.in_range in
    let half_fits : FitsSigned w128 (half c.bound-below.result) = omega (arith, ints, half-is c.bound-below.result, a.low, a.most) in
    let half_above_fits : FitsSigned w128 (half c.bound-above.result) = omega (arith, ints, half-is c.bound-above.result, c.bound-above.ensures.in_range.low, c.bound-above.ensures.in_range.most) in
    let minus_fits : FitsSigned w128 (pos 0 -ℤ half c.bound-below.result) = omega (arith, ints, half-is c.bound-below.result, a.low, a.most) in
    let max_fits : FitsSigned w128 c.max.result = search rules in
    let min_fits : FitsSigned w128 c.min.result = search rules in
    let minus : (pos 0 -ℤ half c.bound-below.result) ≡ neg_ℤ (half c.bound-below.result) = omega (arith, ints) in
    let max_bits = simp to_z-of_z at c.max.ensures.value in
    let max_is : c.max.result ≡ int_max lowest (neg_ℤ (half c.bound-below.result)) = max_bits ∙ ap (int_max lowest) minus in
    let min_is = simp to_z-of_z at c.min.ensures.value in
    let is = simp to_z-of_z at c.between.ensures in
    is ∙ ap (λ v. between v c.min.result) (max_is ∙ ap (λ z. int_max lowest (neg_ℤ (half z))) c.bound-below.ensures.is)
    ∙ ap (between (int_max lowest (neg_ℤ (half (entries c.args.self.now (2 * c.args.x) (2 * c.args.x + 1)))))) (min_is ∙ ap (λ z. int_min highest (half z)) c.bound-above.ensures.is)

pub returns-clause-exact : goal.returns-clause-exact
returns-clause-exact c = λ v. subst (λ (i : Interval). (Holds i v → InBounds v × Allows (entries c.args.self.now) c.args.x v) × (InBounds v × Allows (entries c.args.self.now) c.args.x v → Holds i v)) (sym (returns-clause-value c)) (projected-exact (entries c.args.self.now) c.args.x v)

pub returns-clause-formed : goal.returns-clause-formed
returns-clause-formed c = subst (λ (i : Interval). IsFormed i) (sym (returns-clause-value c)) (projected-formed (entries c.args.self.now) c.args.x)
