use Rattle.std.proofs.Common.{◌≡◌, ◌+◌, ◌++◌, [], length, map, take, sym, ap, ◌∙◌, arith}
use Rattle.std.proofs.lemmas.List.{take_more, length-take-le}
use Rattle.sp_lattice.specs.Flat.{row_at}
use Rattle.sp_engine_keeping.specs.Codes.{code, codes_from}
use Rattle.sp_engine_keeping.proofs.Coding.{codes_more}
use Rattle.sp_engine_keeping.proofs.codes.codes_of.Goals as goal

pub nodes-preserved : goal.nodes-preserved
nodes-preserved c =
    let rows = c.args.rows.now in
    let n = c.nodes.node in
    let front = take n rows in
    let long : 0 + length front ≡ n = omega (arith, length-take-le n rows (omega arith)) in
    c.in_ok-add_codes.ensures
    ∙ ap (λ xs. xs ++ map (code n) c.row-row.result.now) c.nodes.invariant
    ∙ ap (λ row. codes_from 0 front ++ map (code n) row) c.row-row.ensures
    ∙ ap (λ k. codes_from 0 front ++ map (code k) (row_at rows n)) (sym long)
    ∙ sym (ap (codes_from 0) (take_more rows n [] (omega arith)) ∙ codes_more 0 front (row_at rows n))
