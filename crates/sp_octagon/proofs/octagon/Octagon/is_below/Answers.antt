use Rattle.std.proofs.Common.{◌<◌, sym, arith}
use Rattle.std.specs.Prelude.{int_le}
use Rattle.sp_octagon.specs.Order.{all_below}
use Rattle.sp_octagon.specs.Octagons.{rows, entries}
use Rattle.sp_octagon.proofs.OrderLaws.{all_below_fails}
use Rattle.sp_octagon.proofs.octagon.Octagon.is_below.Goals as goal

pub returns-then-not-is_below_in : goal.returns-then-not-is_below_in
returns-then-not-is_below_in c =
    let a = c.args.self.now in
    let b = c.args.other.now in
    let low : c.rows.row < rows a = omega (arith, c.rows-count.ensures.rows) in
    sym (all_below_fails (rows a) (λ r. all_below (rows a) (λ k. int_le (entries a r k) (entries b r k))) c.rows.row low (sym c.if-not-is_below_in.ensures))
