use Rattle.std.proofs.Common.{◌≡◌, ◌∙◌, sym, ap, length, arith}
use Rattle.std.proofs.lemmas.List.{length-map, length-replicate}
use Rattle.sp_lattice.specs.System.{store_at}
use Rattle.sp_dense.proofs.Evaluated.{returned_whole, values_passed, passed_under, effect_of_row}
use Rattle.sp_dense.proofs.evaluation.apply_effect.Goals as goal

pub evaluate-requires-clause-below : goal.evaluate-requires-clause-below
evaluate-requires-clause-below g c =
    let o = g.S.Value.Lattice.order in
    let m = g.S.System.meaning c.args.system.now in
    let row = c.args.row.now.items in
    let passed = values_passed o.bottom row c.deref.result.now c.in_ok-used.used.items c.deref-2.result.now c.uses.result.now (m.uses c.args.node) c.deref.ensures.value c.uses.ensures c.in_ok-used.ensures c.deref-2.ensures.value in
    passed_under o m g.met.S.Value.Lattice.lawful (g.met.S.System.lawful c.args.system.now) c.args.node row c.deref-2.result.now c.requires.under passed

pub returns-clause-effect : goal.returns-clause-effect
returns-clause-effect g c =
    let o = g.S.Value.Lattice.order in
    let m = g.S.System.meaning c.args.system.now in
    let row = c.args.row.now.items in
    let new = c.write_values.new.row.items in
    let lent = c.in_ok-defined.defined in
    let out = c.evaluate.new.output in
    let passed = values_passed o.bottom row c.deref.result.now c.in_ok-used.used.items c.deref-2.result.now c.uses.result.now (m.uses c.args.node) c.deref.ensures.value c.uses.ensures c.in_ok-used.ensures c.deref-2.ensures.value in
    let out_is = c.in_ok-evaluate.ensures.values in
    let lent_long : length lent.items ≡ length c.defs-defs.result.now = ap length c.in_ok-defined.ensures ∙ length-replicate (length c.defs-defs.result.now) o.bottom in
    let out_long : length out ≡ length c.defs-defs.result.now = ap length out_is ∙ length-map (m.defs c.args.node) (m.effect c.args.node (store_at o.bottom (m.uses c.args.node) c.deref-2.result.now)) ∙ ap length (sym c.defs-defs.ensures) in
    let whole = returned_whole lent.items out lent.len (omega (arith, out_long, lent_long, lent.ok.0)) (sym lent.ok.0) in
    let over = c.write_values.ensures.values in
    effect_of_row o m g.met.S.Value.Lattice.lawful (g.met.S.System.lawful c.args.system.now) c.args.node row new c.deref-2.result.now _ c.defs-defs.result.now
    c.requires.node c.requires.under (omega (arith, c.requires.row, c.args.row.now.ok.0)) (omega (arith, c.requires.row, c.write_values.ensures.length, c.write_values.new.row.ok.0)) passed (whole ∙ out_is) c.defs-defs.ensures
    (λ l l_low. over l o.bottom (omega (arith, l_low, c.args.row.now.ok.0)))
