use Rattle.std.proofs.Common.{rules, ap, ◌∙◌, pos, FitsSigned, slice_index_or}
use Rattle.std.specs.Int.{int_min, w128}
use Rattle.std.proofs.lemmas.Int.{to_z-of_z}
use Rattle.sp_octagon.specs.Entries.{cut}
use Rattle.sp_octagon.proofs.closing.HalfSumsChange.change.Goals as goal

pub returns : goal.returns
returns c =
    let halves_fits : FitsSigned w128 c.half_sum-halves.result = search rules in
    let bound_fits : FitsSigned w128 c.args.bound = search rules in
    let first_fits : FitsSigned w128 (slice_index_or c.args.self.now.unary c.args.row (pos 0)) = search rules in
    let second_fits : FitsSigned w128 (slice_index_or c.args.self.now.unary c.negative.result (pos 0)) = search rules in
    let min_fits : FitsSigned w128 c.min.result = search rules in
    let cut_fits : FitsSigned w128 c.cut.result = search rules in
    let sum = simp to_z-of_z at c.half_sum-halves.ensures in
    let halves = rw c.negative.ensures at sum in
    simp to_z-of_z ((simp to_z-of_z at c.cut.ensures) ∙ ap cut ((simp to_z-of_z at c.min.ensures.value) ∙ ap (int_min c.args.bound) halves))
