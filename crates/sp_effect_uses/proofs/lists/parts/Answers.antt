use Rattle.std.proofs.Common.{ℕ, ◌||◌, ◌∙◌, ap}
use Rattle.sp_lattice.specs.System.{has}
use Rattle.sp_effect_rows.specs.Setting.{count}
use Rattle.sp_effect_scene.specs.Analysed.{setting_of}
use Rattle.sp_effect_scene.specs.View.{analysed_of}
use Rattle.sp_transfer.specs.Effects.{own_at, cut_at, defined_at}
use Rattle.sp_effect_uses.proofs.Listed.{are-locations}
use Rattle.sp_effect_uses.proofs.Cut.{low-either}
use Rattle.sp_effect_uses.proofs.lists.parts.Goals as goal

pub returns-clause-places : goal.returns-clause-places
returns-clause-places c =
    let a = analysed_of c.args.analysis.now in
    let all = λ (k : ℕ). c.in_ok-add_all.ensures k ∙ ap (λ xs. has k c.args.own || has k xs) c.as_slice.ensures.numbers in
    are-locations a (defined_at a c.args.sharp c.args.node) c.add_all.new.self c.in_ok-places.places.items c.in_ok-places.ensures.numbers c.in_ok-places.ensures.ascending
    (λ l. all l ∙ ap (λ b. b || has l c.args.cut.now) (c.requires.own l) ∙ ap (λ b. own_at a c.args.node l || b) (c.requires.cut l))
    (low-either (count (setting_of a)) c.args.own c.args.cut.now c.add_all.new.self all c.requires.own_low c.requires.cut_low)

pub returns-clause-cuts : goal.returns-clause-cuts
returns-clause-cuts c =
    let a = analysed_of c.args.analysis.now in (
      are-locations a (own_at a c.args.node) c.args.own c.in_ok-to_list.field-0.items c.in_ok-to_list.ensures.numbers c.in_ok-to_list.ensures.ascending c.requires.own c.requires.own_low,
      are-locations a (cut_at a c.args.sharp c.args.node) c.args.cut.now c.in_ok-to_list-2.field-0.items c.in_ok-to_list-2.ensures.numbers c.in_ok-to_list-2.ensures.ascending c.requires.cut c.requires.cut_low,
    )
