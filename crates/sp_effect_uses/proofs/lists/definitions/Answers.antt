use Rattle.std.proofs.Common.{length, sym, ap, ◌∙◌, arith}
use Rattle.sp_effect_scene.specs.View.{analysed_of}
use Rattle.sp_transfer.specs.Effects.{defined_at}
use Rattle.sp_transfer.proofs.Cutting.{uncut-defined}
use Rattle.sp_effect_uses.proofs.Listed.{are-locations}
use Rattle.sp_effect_uses.proofs.Cut.{none-there}
use Rattle.sp_effect_uses.proofs.lists.definitions.Goals as goal

pub returns-in_ok-places-clause-places : goal.returns-in_ok-places-clause-places
returns-in_ok-places-clause-places c =
    let a = analysed_of c.args.analysis.now in
    are-locations a (defined_at a c.args.sharp c.args.node) c.in_ok-own.own c.in_ok-places.places.items c.in_ok-places.ensures.numbers c.in_ok-places.ensures.ascending
    (λ l. c.in_ok-own.ensures.places l ∙ sym (uncut-defined a c.args.sharp c.args.node l (sym (c.in_ok-cut.ensures.places l) ∙ none-there c.in_ok-cut.cut l (omega (arith, c.if-as_slice-eq0.true, ap length c.as_slice.ensures.numbers)))))
    c.in_ok-own.ensures.low
