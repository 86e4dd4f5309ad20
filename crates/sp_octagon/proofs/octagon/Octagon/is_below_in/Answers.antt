use Rattle.std.proofs.Common.{rules, FitsSigned, ◌≡◌, ◌∙◌, ◌<◌, ap, sym, true, false, arith}
use Rattle.std.specs.Prelude.{int_le}
use Rattle.std.specs.Int.{w128}
use Rattle.std.proofs.lemmas.Int.{to_z-of_z}
use Rattle.sp_octagon.specs.Octagons.{rows, entries}
use Rattle.sp_octagon.proofs.OrderLaws.{all_below_fails, all_below-next, le_fails, le_holds}
use Rattle.sp_octagon.proofs.octagon.Octagon.is_below_in.Goals as goal

pub returns-then-bound : goal.returns-then-bound
returns-then-bound c =
    let a = c.args.self.now in
    let b = c.args.other.now in
    let first_fits : FitsSigned w128 c.bound.result = search rules in
    let second_fits : FitsSigned w128 c.bound-in-columns.result = search rules in
    let test = simp to_z-of_z at c.if-bound.true in
    let fails : int_le (entries a c.args.row c.columns.column) (entries b c.args.row c.columns.column) ≡ false =
    ap (λ u. int_le u (entries b c.args.row c.columns.column)) (sym c.bound.ensures.is) ∙ ap (int_le c.bound.result) (sym c.bound-in-columns.ensures.is) ∙ le_fails c.bound.result c.bound-in-columns.result test in
    let low : c.columns.column < rows a = omega (arith, c.rows-count.ensures.rows) in
    sym (all_below_fails (rows a) (λ k. int_le (entries a c.args.row k) (entries b c.args.row k)) c.columns.column low fails)

pub columns-preserved : goal.columns-preserved
columns-preserved c =
    let a = c.args.self.now in
    let b = c.args.other.now in
    let first_fits : FitsSigned w128 c.bound.result = search rules in
    let second_fits : FitsSigned w128 c.bound-in-columns.result = search rules in
    let test = simp to_z-of_z at c.if-bound.false in
    let holds : int_le (entries a c.args.row c.columns.column) (entries b c.args.row c.columns.column) ≡ true =
    ap (λ u. int_le u (entries b c.args.row c.columns.column)) (sym c.bound.ensures.is) ∙ ap (int_le c.bound.result) (sym c.bound-in-columns.ensures.is) ∙ le_holds c.bound.result c.bound-in-columns.result test in
    all_below-next c.columns.column (λ k. int_le (entries a c.args.row k) (entries b c.args.row k)) c.columns.invariant holds
