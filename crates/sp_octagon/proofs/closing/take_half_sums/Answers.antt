use Rattle.std.proofs.Common.{◌∙◌, ap, pos}
use Rattle.std.specs.Prelude.{slice_index_or}
use Rattle.std.specs.Int.{int_min}
use Rattle.sp_octagon.specs.Entries.{entries_of, cut, half_sum, negative}
use Rattle.sp_octagon.proofs.Numbers.{negative-lt, negative_twice}
use Rattle.sp_octagon.proofs.closing.take_half_sums.Goals as goal

pub returns-clause-inside : goal.returns-clause-inside
returns-clause-inside c = λ r k hr hk.
    let m = entries_of c.args.cells.now in
    let first = c.unary_of-unary.ensures r hr in
    let second = c.unary_of-unary.ensures (negative k) (negative-lt k c.args.size hk) ∙ ap (m (negative k)) (negative_twice k) in
    c.change_entries.ensures.inside r k hr hk
    ∙ ap (λ x. cut (int_min (m r k) (half_sum x (slice_index_or c.unary_of-unary.result (negative k) (pos 0))))) first
    ∙ ap (λ x. cut (int_min (m r k) (half_sum (m r (negative r)) x))) second
