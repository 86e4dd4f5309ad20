use Rattle.std.proofs.Common.{rules, FitsSigned, ◌≡◌, ◌*◌, ◌+◌, ℤ, pos, ◌+ℤ◌, ◌-ℤ◌, neg_ℤ, subst, arith}
use Rattle.std.specs.Int.{w128}
use Rattle.std.proofs.lemmas.Int.{to_z-of_z, ints}
use Rattle.sp_octagon.specs.Changes.{lowered}
use Rattle.sp_octagon.specs.Octagons.{entries, Becomes}
use Rattle.sp_octagon.proofs.Composing.{lowered_after}
use Rattle.sp_octagon.proofs.octagon.Octagon.lower_to.Goals as goal

pub returns : goal.returns
returns c =
    let lo = c.args.lo in
    let hi = c.args.hi in
    let lo_fits : FitsSigned w128 c.args.lo = search rules in
    let hi_fits : FitsSigned w128 c.args.hi = search rules in
    let high_fits : FitsSigned w128 (c.args.hi +ℤ c.args.hi) = omega (arith, ints, c.requires.hi.0, c.requires.hi.1) in
    let low_fits : FitsSigned w128 (c.args.lo +ℤ c.args.lo) = omega (arith, ints, c.requires.lo.0, c.requires.lo.1) in
    let minus_fits : FitsSigned w128 (pos 0 -ℤ (c.args.lo +ℤ c.args.lo)) = omega (arith, ints, c.requires.lo.0, c.requires.lo.1) in
    let minus : (pos 0 -ℤ (c.args.lo +ℤ c.args.lo)) ≡ neg_ℤ (c.args.lo +ℤ c.args.lo) = omega (arith, ints) in
    let first = simp to_z-of_z at c.lower.ensures.becomes in
    let last = simp to_z-of_z at c.lower-2.ensures.becomes in
    let second = subst (λ (z : ℤ). Becomes c.lower.new.self c.lower-2.new.self (lowered (entries c.lower.new.self) (2 * c.args.x) (2 * c.args.x + 1) z)) minus last in
    record { becomes = lowered_after c.args.self.now c.lower.new.self c.lower-2.new.self (2 * c.args.x) (2 * c.args.x + 1) (neg_ℤ (lo +ℤ lo)) (lowered (entries c.args.self.now) (2 * c.args.x + 1) (2 * c.args.x) (hi +ℤ hi)) first second }
