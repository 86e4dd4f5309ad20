use Rattle.std.proofs.Common.{◌∷◌, refl, sym, ap, ◌∙◌}
use Rattle.std.specs.Result.{result_from_control_flow}
use Rattle.std.proofs.lemmas.Result.{err_from_is_err_and, MatchResult-at_ok, MatchResult-at_err}
use Rattle.sp_parse_trees.specs.View.{tree_of}
use Rattle.sp_parse_grammar.specs.CTokens.{is_specifier, view}
use Rattle.sp_parse_tokens.specs.Sorts.{sort_of}
use Rattle.sp_parse_expr_steps.proofs.Marks.{opening_is}
use Rattle.sp_parse_expr_steps.proofs.Unaries.{sizeof_group_stop, sizeof_group_read}
use Rattle.sp_parse_expr_steps.specs.Reading.{first_sort}
use Rattle.sp_parse_expr_ends.proofs.Firsts.{begun_by}
use Rattle.sp_parse_expr_ends.proofs.conversions.measured_group.Goals as goal

pub returns-in_err-operand : goal.returns-in_err-operand
returns-in_err-operand c =
    let p = err_from_is_err_and c.from_residual.result c.from_residual.ensures.1 in
    let types = c.args.context.types.now in
    let b = begun_by c.args.tokens.now c.requires.ended in
    let stands = sym (ap (λ v. is_specifier (first_sort types v)) b.whole) ∙ c.requires.begun in
    let y = c.args.opening in
    let xs = c.args.tokens.now in
    let is = sym (opening_is (view types (sort_of y.kind)) c.requires.opening) in
    rw (p.1, p.2) (sizeof_group_stop types c.args.context.scope c.args.depth (y ∷ xs) xs b.behind c.args.word y b.first refl is b.whole c.requires.room stands c.in_err-operand.field-0.0 (MatchResult-at_err _ _ _ (c.branch-operand.ensures ∙ ap (λ r. result_from_control_flow r) c.in_err-operand.is) c.requires.read))

pub returns : goal.returns
returns c =
    let types = c.args.context.types.now in
    let b = begun_by c.args.tokens.now c.requires.ended in
    let stands = sym (ap (λ v. is_specifier (first_sort types v)) b.whole) ∙ c.requires.begun in
    let y = c.args.opening in
    let xs = c.args.tokens.now in
    let is = sym (opening_is (view types (sort_of y.kind)) c.requires.opening) in
    let operand = c.in_ok-operand.operand in
    sizeof_group_read types c.args.context.scope c.args.depth (y ∷ xs) xs b.behind c.args.word y b.first refl is b.whole c.requires.room stands (tree_of operand.tree) (tree_of c.in_ok-tree.tree) operand.depth operand.rest.now c.in_ok-tree.ensures (MatchResult-at_ok _ _ _ (c.branch-operand.ensures ∙ ap (λ r. result_from_control_flow r) c.in_ok-operand.is) c.requires.read)
