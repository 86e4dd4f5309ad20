use Rattle.std.proofs.Common.{rules, ◌≡◌, [], sym, ap, subst, ◌∙◌}
use Rattle.std.proofs.lemmas.List.{with_items_is, places}
use Rattle.sp_parse_trees.specs.View.{externals_of}
use Rattle.sp_base_checked.specs.Answers.{and_then, Answers}
use Rattle.sp_check_env.specs.Views.{env_of}
use Rattle.sp_base_checked.specs.Units.{checked_unit_of}
use Rattle.sp_decl_check.specs.Definitions.{externals_checked}
use Rattle.sp_decl_check.specs.Units.{unit_told, unit_checked}
use Rattle.sp_decl_check.proofs.Lists.{same_told}
use Rattle.sp_decl_check.proofs.unit.check_unit.Goals as goal

-- what is told at the end is told of the external declarations before any was dropped
pub returns : goal.returns
returns c =
    let us = externals_of c.args.unit.items.items in
    let env = env_of c.externals_checked.new.env in
    let numbers = c.in_ok-defined.defined.items in
    let first = c.deref_mut.ensures.value in
    let last : c.deref.result.now ≡ c.externals_checked.new.externals = c.deref.ensures.value ∙ with_items_is c.args.unit.items c.externals_checked.new.externals (search (rules, places)) in
    let told : unit_told env numbers (externals_of c.deref.result.now) ≡ unit_told env numbers us =
    ap (λ es. unit_told env numbers (externals_of es)) last
    ∙ (same_told env numbers (externals_of c.externals_checked.new.externals) (externals_of c.deref_mut.result.now) c.externals_checked.ensures.kept
    ∙ ap (λ es. unit_told env numbers (externals_of es)) first) in
    let names = c.args.names.now in
    let checked : unit_checked names us ≡ unit_told env numbers us =
    ap (λ k. and_then k (λ x. unit_told x.1 x.0 us))
    (sym (ap (λ e. externals_checked names e [] us) c.new-env.ensures)
    ∙ (sym (ap (λ es. externals_checked names (env_of c.new-env.result) [] (externals_of es)) first) ∙ c.in_ok-defined.ensures.answer)) in
    subst (λ k. Answers checked_unit_of k c.unit_told.result) (told ∙ sym checked) c.unit_told.ensures
