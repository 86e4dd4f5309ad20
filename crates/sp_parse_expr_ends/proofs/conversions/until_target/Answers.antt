use Rattle.std.proofs.Common.{◌≡◌, ◌∷◌, ◌-◌, length, refl, sym, ap, ◌∙◌, subst, arith}
use Rattle.std.specs.Result.{result_from_control_flow}
use Rattle.std.proofs.lemmas.Result.{err_from_is_err_and, MatchResult-at_ok, MatchResult-at_err}
use Rattle.sp_parse_trees.specs.View.{type_name_of}
use Rattle.sp_parse_grammar.specs.CTokens.{is_specifier, view}
use Rattle.sp_parse_tokens.specs.Sorts.{sort_of}
use Rattle.sp_parse_tokens.specs.Scopes.{there}
use Rattle.sp_parse_expr_steps.specs.Reading.{IsTypeName, first_sort}
use Rattle.sp_parse_expr_steps.proofs.Marks.{opening_is}
use Rattle.sp_parse_expr_steps.proofs.Casts.{cast_type_stop, cast_unclosed}
use Rattle.sp_parse_expr_ends.proofs.Firsts.{begun_by}
use Rattle.sp_parse_expr_ends.proofs.conversions.until_target.Goals as goal

pub returns-in_err-name : goal.returns-in_err-name
returns-in_err-name c =
    let p = err_from_is_err_and c.from_residual.result c.from_residual.ensures.1 in
    let types = c.args.context.types.now in
    let b = begun_by c.args.tokens.now c.requires.ended in
    let stands = sym (ap (λ v. is_specifier (first_sort types v)) b.whole) ∙ c.requires.begun in
    let y = c.args.opening in
    let xs = c.args.tokens.now in
    let is = sym (opening_is (view types (sort_of y.kind)) c.requires.opening) in
    rw (p.1, p.2) (cast_type_stop types c.args.context.scope c.args.depth (y ∷ xs) xs b.behind y b.first refl is b.whole stands c.requires.room c.in_err-name.field-0.0 (MatchResult-at_err _ _ _ (c.branch-name.ensures ∙ ap (λ r. result_from_control_flow r) c.in_err-name.is) c.requires.read))

pub returns-in_err-rest : goal.returns-in_err-rest
returns-in_err-rest c =
    let p = err_from_is_err_and c.from_residual-in_err-rest.result c.from_residual-in_err-rest.ensures.1 in
    let types = c.args.context.types.now in
    let b = begun_by c.args.tokens.now c.requires.ended in
    let stands = sym (ap (λ v. is_specifier (first_sort types v)) b.whole) ∙ c.requires.begun in
    let y = c.args.opening in
    let xs = c.args.tokens.now in
    let is = sym (opening_is (view types (sort_of y.kind)) c.requires.opening) in
    let name = c.in_ok-name.name in
    rw (p.1, p.2) (cast_unclosed types c.args.context.scope c.args.depth (y ∷ xs) xs b.behind y b.first refl is b.whole stands c.requires.room (type_name_of name.tree.tree) name.tree.behind name.depth name.rest.now (MatchResult-at_ok _ _ _ (c.branch-name.ensures ∙ ap (λ r. result_from_control_flow r) c.in_ok-name.is) c.requires.read) c.in_err-rest.field-0.0 (MatchResult-at_err _ _ _ c.in_err-rest.ensures c.expect-next.ensures))

pub returns : goal.returns
returns c =
    let types = c.args.context.types.now in
    let g = there types c.args.context.scope in
    let name = c.in_ok-name.name in
    let h = MatchResult-at_ok _ _ _ (c.branch-name.ensures ∙ ap (λ r. result_from_control_flow r) c.in_ok-name.is) c.requires.read in
    let closes = MatchResult-at_ok _ _ _ c.in_ok-rest.ensures.0 c.expect-next.ensures in
    let less : length name.rest.now ≡ length (closes.first ∷ c.in_ok-rest.rest.now) = ap length closes.whole in
    record {
      mid = name.rest.now;
      behind = name.tree.behind;
      read = subst (λ v. IsTypeName g (c.args.depth - 1) c.args.tokens.now (type_name_of v) name.tree.behind name.depth name.rest.now) (sym c.in_ok-rest.ensures.1) h;
      closes = closes;
      ended = closes.ended;
      fewer = omega (arith, h.read.fewer, less);
    }
