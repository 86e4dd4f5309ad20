use Rattle.std.proofs.Common.{ℕ, map, option_map, ap, sym, ◌∙◌}
use Rattle.sp_ir.specs.View.{expression_of, lvalue_of}
use Rattle.sp_value.specs.Slots.{known_of}
use Rattle.sp_effect_rows.specs.Rows.{applied}
use Rattle.sp_effect_rows.specs.Updates.{store_of}
use Rattle.sp_effect_scene.specs.View.{analysed_of}
use Rattle.sp_effect_library.specs.Given.{given_value}
use Rattle.sp_effect_library.specs.Effects.{argument_in, given_row, giving}
use Rattle.sp_effect_library.proofs.effects.give.Goals as goal

pub returns-in_ok-give_to-in-Some : goal.returns-in_ok-give_to-in-Some
returns-in_ok-give_to-in-Some g c = λ l h.
    let a = analysed_of c.args.analysis.now in
    let s : ℕ → _ = λ n. g.V.View.store c.args.view.now n in
    let args = map expression_of c.args.call.now.args.now in
    let old : ℕ → _ = λ n. store_of c.args.places.now c.args.row.now n in
    c.in_ok-give_to-in-Some.ensures l h
    ∙ ap (λ v. applied (given_row a (lvalue_of c.in-Some.to.now) v s) old l)
    (c.in_ok-given-in-Some.ensures ∙ ap (λ v. given_value a.program v (known_of c.args.arguments.now.second) c.args.call.now.which c.args.call.now.site) c.requires.first
    ∙ ap (λ v. given_value a.program (argument_in a args 0 s) v c.args.call.now.which c.args.call.now.site) c.requires.second)
    ∙ ap (λ o. applied (giving a args c.args.call.now.site c.args.call.now.which (option_map (λ k. lvalue_of k.now) o) s) old l) (sym c.in-Some.is)
