use Rattle.std.proofs.Common.{◌∙◌, ap, map}
use Rattle.std.proofs.lemmas.List.{take_all}
use Rattle.sp_types.specs.TypedView.{statement_of, statement_list}
use Rattle.sp_link_renaming.specs.Renaming.{renamed_statement}
use Rattle.sp_link_renaming.specs.View.{renaming_of}
use Rattle.sp_link_renaming.proofs.Lists.{statements_renamed}
use Rattle.sp_link_renaming.proofs.statements.+statement.Goals as goal

pub all_renamed-returns : goal.all_renamed-returns
all_renamed-returns t c =
    ap statement_list c.statements.invariant
    ∙ ap (λ xs. statement_list (map (renamed_statement (renaming_of c.args.to.now)) (map statement_of xs))) (take_all c.statements.i c.args.statements.now c.statements-test.false)
    ∙ statements_renamed (renaming_of c.args.to.now) (map statement_of c.args.statements.now)
