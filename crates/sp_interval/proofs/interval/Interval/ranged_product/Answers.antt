use Rattle.std.proofs.Common.{FitsSigned, rules}
use Rattle.std.specs.Int.{w128}
use Rattle.std.proofs.lemmas.Int.{to_z-of_z}
use Rattle.sp_interval.proofs.interval.Interval.ranged_product.Goals as goal

pub returns-in-Of-Of : goal.returns-in-Of-Of
returns-in-Of-Of c =
    let a : FitsSigned w128 c.in-Of-Of.lo = search rules in
    let b : FitsSigned w128 c.in-Of-Of.hi = search rules in
    let d : FitsSigned w128 c.in-Of-Of.other_lo = search rules in
    let e : FitsSigned w128 c.in-Of-Of.other_hi = search rules in
    let p = simp to_z-of_z at c.product.ensures in
    let q = simp to_z-of_z at c.product-in-Of-Of.ensures in
    let r = simp to_z-of_z at c.product-in-Of-Of-2.ensures in
    let s = simp to_z-of_z at c.product-in-Of-Of-3.ensures in
    rw (c.in-Of-Of.is-0, c.in-Of-Of.is-1, ← p, ← q, ← r, ← s) c.ranged_span.ensures
