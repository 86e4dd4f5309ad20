use Rattle.std.proofs.Common.{◌≡◌, ◌∙◌, refl, sym, ap}
use Rattle.sp_parse_trees.specs.declared.tree.DeclaratorForm.TheFolds.{fold-roll-Specifier, fold-roll-EnumSpec}
use Rattle.sp_parse_trees.specs.declared.tree.Specifier.{Enum}
use Rattle.sp_parse_trees.specs.declared.tree.Specifier.TheVariants.{rolls-Enum}
use Rattle.sp_parse_trees.specs.Syntax.{enum_specifier}
use Rattle.sp_parse_trees.specs.View.{specifier_of}
use Rattle.sp_parse_expr_steps.proofs.StructureSteps.{enum_view, constants_seen}
use Rattle.sp_parse_expr_steps.proofs.specifiers.enumeration.Goals as goal

pub returns : goal.returns
returns c =
    let whole : specifier_of (Enum c.in_ok-new.field-0) ≡ enum_specifier (enum_view c.in_ok-new.field-0.value) = rw (sym (rolls-Enum c.in_ok-new.field-0)) (rw fold-roll-Specifier refl) in
    let rolled = rw fold-roll-EnumSpec at (ap (λ v. enum_view v) c.in_ok-new.ensures.ok) in
    let seen = constants_seen _ c.args.constants.items c.args.tag c.args.word.place (enum_view c.in_ok-new.field-0.value) rolled (λ n p. refl) (λ n p e. refl) in
    whole ∙ ap (λ v. enum_specifier v) seen
