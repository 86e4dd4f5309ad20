use Rattle.std.proofs.Common.{◌∷◌, true, refl, sym, ap, ◌∙◌}
use Rattle.std.specs.Result.{result_from_control_flow}
use Rattle.std.proofs.lemmas.Result.{err_from_is_err_and, MatchResult-at_ok, MatchResult-at_err}
use Rattle.sp_parse_trees.specs.View.{tree_of}
use Rattle.sp_parse_grammar.specs.CTokens.{is_specifier, view}
use Rattle.sp_parse_grammar.specs.CTable.{operand}
use Rattle.sp_parse_tokens.specs.Sorts.{sort_of}
use Rattle.sp_parse_tokens.specs.Scopes.{there}
use Rattle.sp_parse_expr_steps.specs.Reading.{operand_seen, first_sort}
use Rattle.sp_parse_expr_steps.proofs.Marks.{opening_is}
use Rattle.sp_parse_expr_steps.proofs.Casts.{operand_read, cast_group_stop, cast_group_read}
use Rattle.sp_parse_expr_ends.proofs.Firsts.{begun_by}
use Rattle.sp_parse_expr_ends.proofs.conversions.grouped_operand.Goals as goal

pub returns-in_err-part : goal.returns-in_err-part
returns-in_err-part c =
    let p = err_from_is_err_and c.from_residual.result c.from_residual.ensures.1 in
    let types = c.args.context.types.now in
    let b = begun_by c.args.tokens.now c.requires.ended in
    let stands = sym (ap (λ v. is_specifier (first_sort types v)) b.whole) ∙ c.requires.begun in
    let y = c.args.opening in
    let xs = c.args.tokens.now in
    let is = sym (opening_is (view types (sort_of y.kind)) c.requires.opening) in
    rw (p.1, p.2) (cast_group_stop types c.args.context.scope c.args.depth (y ∷ xs) xs b.behind y b.first refl is b.whole stands c.in_err-part.field-0.0 (MatchResult-at_err _ _ _ (c.branch-part.ensures ∙ ap (λ r. result_from_control_flow r) c.in_err-part.is) c.requires.read))

pub returns : goal.returns
returns c =
    let types = c.args.context.types.now in
    let g = there types c.args.context.scope in
    let b = begun_by c.args.tokens.now c.requires.ended in
    let stands = sym (ap (λ v. is_specifier (first_sort types v)) b.whole) ∙ c.requires.begun in
    let y = c.args.opening in
    let xs = c.args.tokens.now in
    let is = sym (opening_is (view types (sort_of y.kind)) c.requires.opening) in
    let part = c.in_ok-part.part in
    let now = c.as_operand.result in
    operand_read g c.args.depth part.depth now.depth (y ∷ xs) part.rest.now now.rest.now (operand (tree_of part.tree) true) (operand_seen now.tree) c.as_operand.ensures.tree c.as_operand.ensures.depth c.as_operand.ensures.rest
    (cast_group_read types c.args.context.scope c.args.depth (y ∷ xs) xs b.behind y b.first refl is b.whole stands (tree_of part.tree) part.depth part.rest.now (MatchResult-at_ok _ _ _ (c.branch-part.ensures ∙ ap (λ r. result_from_control_flow r) c.in_ok-part.is) c.requires.read))
