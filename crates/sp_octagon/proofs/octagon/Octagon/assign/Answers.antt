use Rattle.std.proofs.Common.{rules, FitsSigned, ◌≡◌, ◌*◌, ℤ, pos, neg_ℤ, ◌-ℤ◌, sym, subst, arith}
use Rattle.std.specs.Int.{w128}
use Rattle.std.proofs.lemmas.Int.{to_z-of_z, ints}
use Rattle.sp_octagon.specs.Entries.{Entries}
use Rattle.sp_octagon.specs.Changes.{forgotten, with_pair}
use Rattle.sp_octagon.specs.Octagons.{entries, Becomes}
use Rattle.sp_octagon.proofs.ChangeLaws.{assigned_other}
use Rattle.sp_octagon.proofs.Composing.{with_pair_after}
use Rattle.sp_octagon.proofs.octagon.Octagon.assign.Goals as goal

pub returns-else-x-y : goal.returns-else-x-y
returns-else-x-y c =
    let k_fits : FitsSigned w128 c.args.k = search rules in
    let minus_fits : FitsSigned w128 (pos 0 -ℤ c.args.k) = omega (arith, ints, c.requires.low, c.requires.high) in
    let minus : (pos 0 -ℤ c.args.k) ≡ neg_ℤ c.args.k = omega (arith, ints) in
    let x = c.args.x in
    let y = c.args.y in
    let m = entries c.args.self.now in
    let first = simp to_z-of_z at c.set_entry.ensures.becomes in
    let last = simp to_z-of_z at c.set_entry-else-x-y.ensures.becomes in
    let second = subst (λ (z : ℤ). Becomes c.set_entry.new.self c.set_entry-else-x-y.new.self (with_pair (entries c.set_entry.new.self) (2 * c.args.x) (2 * c.args.y) z)) minus last in
    let one = with_pair_after c.args.self.now c.clear.new.self c.set_entry.new.self (2 * y) (2 * x) c.args.k (forgotten m x) c.clear.ensures first in
    let both = with_pair_after c.args.self.now c.set_entry.new.self c.set_entry-else-x-y.new.self (2 * x) (2 * y) (neg_ℤ c.args.k) (with_pair (forgotten m x) (2 * y) (2 * x) c.args.k) one second in
    subst (λ (e : Entries). Becomes c.args.self.now c.set_entry-else-x-y.new.self e) (sym (assigned_other m x y c.args.k c.if-x-y.false)) both
