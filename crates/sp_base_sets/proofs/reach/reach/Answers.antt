use Rattle.std.proofs.Common.{◌∙◌, subst, sym, set, true, length-set}
use Rattle.std.proofs.lemmas.List.{get_or_default}
use Rattle.sp_base_sets.specs.Marks.{IsMarked}
use Rattle.sp_base_sets.proofs.Marking.{marked_pushed}
use Rattle.sp_base_sets.proofs.reach.reach.Goals as goal

pub returns-clause-listed : goal.returns-clause-listed
returns-clause-listed c =
    let marks = c.args.walk.now.is_reached.items in
    let f = c.args.number in
    (subst (λ xs. IsMarked (set marks f true) xs) (sym c.in_ok-push.ensures.items) (marked_pushed marks c.args.walk.now.order.items f c.requires.low c.requires.listed.0 (get_or_default marks f _ _ c.requires.low ∙ sym c.index.ensures ∙ c.if-index.false)), length-set marks f true)
