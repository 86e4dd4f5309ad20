use Rattle.std.proofs.Common.{rules, FitsSigned, ◌∙◌, ap, sym, cond, ◌+ℤ◌, ◌-ℤ◌, arith}
use Rattle.std.specs.Int.{w128}
use Rattle.std.proofs.lemmas.Int.{to_z-of_z, ints}
use Rattle.sp_lattice.proofs.Snaps.{lt_from_int_lt}
use Rattle.sp_octagon.specs.Entries.{unbounded, cut}
use Rattle.sp_octagon.specs.Changes.{growth}
use Rattle.sp_octagon.proofs.changes.MovingChange.change.Goals as goal

pub returns-then-bound-lt-UNBOUNDED : goal.returns-then-bound-lt-UNBOUNDED
returns-then-bound-lt-UNBOUNDED c =
    let bound_fits : FitsSigned w128 c.args.bound = search rules in
    let by_fits : FitsSigned w128 c.args.self.now.by = search rules in
    let column_fits : FitsSigned w128 c.growth.result = search rules in
    let row_fits : FitsSigned w128 c.growth-2.result = search rules in
    let growth_fits : FitsSigned w128 (c.growth.result -ℤ c.growth-2.result) = omega (arith, ints, c.growth.ensures.least, c.growth.ensures.most, c.growth-2.ensures.least, c.growth-2.ensures.most) in
    let test = simp to_z-of_z at c.if-bound-lt-UNBOUNDED.true in
    let high = c.requires.allowed.3.high (lt_from_int_lt c.args.bound unbounded test) in
    let sum_fits : FitsSigned w128 (c.args.bound +ℤ (c.growth.result -ℤ c.growth-2.result)) = omega (arith, ints, c.growth.ensures.least, c.growth.ensures.most, c.growth-2.ensures.least, c.growth-2.ensures.most, c.requires.allowed.3.low, high) in
    let cut_fits : FitsSigned w128 c.cut.result = search rules in
    let is = simp to_z-of_z at c.cut.ensures in
    let column = c.growth.ensures.value in
    let row = c.growth-2.ensures.value in
    let whole = c.args.bound in
    simp to_z-of_z (
    is ∙ ap (λ g. cut (whole +ℤ (g -ℤ c.growth-2.result))) column
    ∙ ap (λ g. cut (whole +ℤ (growth c.args.self.now.member c.args.self.now.by c.args.column -ℤ g))) row
    ∙ sym (ap (λ t. cond t (cut (whole +ℤ (growth c.args.self.now.member c.args.self.now.by c.args.column -ℤ growth c.args.self.now.member c.args.self.now.by c.args.row))) unbounded) test))
