use Rattle.std.proofs.Common.{◌∙◌, ap, map}
use Rattle.std.proofs.lemmas.List.{take_all}
use Rattle.sp_types.specs.TypedView.{typed_of, typed_list}
use Rattle.sp_link_renaming.specs.Renaming.{renamed}
use Rattle.sp_link_renaming.specs.View.{renaming_of}
use Rattle.sp_link_renaming.proofs.Lists.{trees_renamed}
use Rattle.sp_link_renaming.proofs.expressions.+expression.Goals as goal

pub all_renamed-returns : goal.all_renamed-returns
all_renamed-returns t c =
    ap typed_list c.es.invariant
    ∙ ap (λ xs. typed_list (map (renamed (renaming_of c.args.to.now)) (map typed_of xs))) (take_all c.es.i c.args.es.now c.es-test.false)
    ∙ trees_renamed (renaming_of c.args.to.now) (map typed_of c.args.es.now)
