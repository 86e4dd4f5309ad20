use Rattle.std.proofs.Common.{◌∙◌, ap, length, arith}
use Rattle.sp_lattice.specs.Row.{joined_rows, any_grows}
use Rattle.sp_dense.proofs.Grids.{row_long}
use Rattle.sp_dense.proofs.Visiting.{reached_below, visits}
use Rattle.sp_dense.proofs.evaluation.visit.Goals as goal

pub apply_effect-requires-clause-under : goal.apply_effect-requires-clause-under
apply_effect-requires-clause-under g c =
    let o = g.S.Value.Lattice.order in
    let m = g.S.System.meaning c.args.system.now in
    reached_below o m g.met.S.Value.Lattice.lawful (g.met.S.System.lawful c.args.system.now) c.solution_laws.ensures.laws c.args.rows.now.items c.args.node c.in_ok-effect.effect.items c.requires.node c.requires.part c.in_ok-effect.ensures

pub raise-requires : goal.raise-requires
raise-requires g c =
    let m = g.S.System.meaning c.args.system.now in
    let row = c.index_mut-row.result.now in
    omega (arith, ap length c.deref.ensures.value, c.in_ok-apply_effect.ensures.effect.long, row.ok.0, row_long m c.args.rows.now.items c.args.node row c.requires.grid c.requires.node c.index_mut-row.ensures.value)

pub returns-clause-visited : goal.returns-clause-visited
returns-clause-visited g c =
    let o = g.S.Value.Lattice.order in
    let m = g.S.System.meaning c.args.system.now in
    let old = c.index_mut-row.result.now in
    let effect = c.apply_effect.new.row.items in
    visits o m g.met.S.Value.Lattice.lawful (g.met.S.System.lawful c.args.system.now) c.solution_laws.ensures.laws c.args.rows.now.items c.args.node old c.raise.new.row c.in_ok-effect.effect.items effect
    c.requires.node c.requires.grid c.requires.part c.index_mut-row.ensures.value c.in_ok-effect.ensures c.in_ok-apply_effect.ensures.effect
    (c.in_ok-grew.ensures.raised ∙ ap (λ ys. joined_rows o old.items ys) c.deref.ensures.value) c.in_ok-grew.grew (c.in_ok-grew.ensures.grew ∙ ap (λ ys. any_grows o old.items ys) c.deref.ensures.value)
