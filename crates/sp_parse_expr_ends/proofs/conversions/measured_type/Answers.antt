use Rattle.std.proofs.Common.{◌∷◌, refl, sym, ap, ◌∙◌}
use Rattle.std.specs.Result.{result_from_control_flow}
use Rattle.std.proofs.lemmas.Result.{err_from_is_err_and, MatchResult-at_ok, MatchResult-at_err}
use Rattle.sp_parse_trees.specs.Syntax.{expression, sizeof_type}
use Rattle.sp_parse_trees.specs.View.{tree_of, type_name_of}
use Rattle.sp_parse_grammar.specs.CTokens.{is_specifier, view}
use Rattle.sp_parse_tokens.specs.Sorts.{sort_of}
use Rattle.sp_parse_expr_steps.proofs.Marks.{opening_is}
use Rattle.sp_parse_expr_steps.proofs.Unaries.{sizeof_type_stop, sizeof_unclosed, sizeof_type_read}
use Rattle.sp_parse_expr_steps.specs.Reading.{first_sort}
use Rattle.sp_parse_expr_ends.proofs.Firsts.{begun_by}
use Rattle.sp_parse_expr_ends.proofs.conversions.measured_type.Goals as goal

pub returns-in_err-name : goal.returns-in_err-name
returns-in_err-name c =
    let p = err_from_is_err_and c.from_residual.result c.from_residual.ensures.1 in
    let types = c.args.context.types.now in
    let b = begun_by c.args.tokens.now c.requires.ended in
    let stands = sym (ap (λ v. is_specifier (first_sort types v)) b.whole) ∙ c.requires.begun in
    let y = c.args.opening in
    let xs = c.args.tokens.now in
    let is = sym (opening_is (view types (sort_of y.kind)) c.requires.opening) in
    rw (p.1, p.2) (sizeof_type_stop types c.args.context.scope c.args.depth (y ∷ xs) xs b.behind c.args.word y b.first refl is b.whole c.requires.room stands c.in_err-name.field-0.0 (MatchResult-at_err _ _ _ (c.branch-name.ensures ∙ ap (λ r. result_from_control_flow r) c.in_err-name.is) c.requires.read))

pub returns-in_err-rest : goal.returns-in_err-rest
returns-in_err-rest c =
    let p = err_from_is_err_and c.from_residual-in_err-rest.result c.from_residual-in_err-rest.ensures.1 in
    let types = c.args.context.types.now in
    let b = begun_by c.args.tokens.now c.requires.ended in
    let stands = sym (ap (λ v. is_specifier (first_sort types v)) b.whole) ∙ c.requires.begun in
    let y = c.args.opening in
    let xs = c.args.tokens.now in
    let is = sym (opening_is (view types (sort_of y.kind)) c.requires.opening) in
    let name = c.in_ok-name.name in
    rw (p.1, p.2) (sizeof_unclosed types c.args.context.scope c.args.depth (y ∷ xs) xs b.behind c.args.word y b.first refl is b.whole c.requires.room stands (type_name_of name.tree.tree) name.tree.behind name.depth name.rest.now (MatchResult-at_ok _ _ _ (c.branch-name.ensures ∙ ap (λ r. result_from_control_flow r) c.in_ok-name.is) c.requires.read) c.in_err-rest.field-0.0 (MatchResult-at_err _ _ _ c.in_err-rest.ensures c.expect-next.ensures))

pub returns : goal.returns
returns c =
    let types = c.args.context.types.now in
    let b = begun_by c.args.tokens.now c.requires.ended in
    let stands = sym (ap (λ v. is_specifier (first_sort types v)) b.whole) ∙ c.requires.begun in
    let y = c.args.opening in
    let xs = c.args.tokens.now in
    let is = sym (opening_is (view types (sort_of y.kind)) c.requires.opening) in
    let name = c.in_ok-name.name in
    let word = c.args.word in
    let made = c.in_ok-tree.ensures ∙ ap (λ n. expression (sizeof_type (type_name_of n)) word.place word.place) c.in_ok-rest.ensures.1 in
    sizeof_type_read types c.args.context.scope c.args.depth (y ∷ xs) xs b.behind c.args.word y b.first refl is b.whole c.requires.room stands (type_name_of name.tree.tree) name.tree.behind name.depth name.rest.now (MatchResult-at_ok _ _ _ (c.branch-name.ensures ∙ ap (λ r. result_from_control_flow r) c.in_ok-name.is) c.requires.read) (tree_of c.in_ok-tree.tree) c.in_ok-rest.rest.now made (MatchResult-at_ok _ _ _ c.in_ok-rest.ensures.0 c.expect-next.ensures)
