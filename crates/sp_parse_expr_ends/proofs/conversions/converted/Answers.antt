use Rattle.std.proofs.Common.{◌∷◌, refl, sym, ap, ◌∙◌}
use Rattle.std.proofs.lemmas.Result.{err_from_is_err_and, MatchResult-at_ok, MatchResult-at_err}
use Rattle.sp_parse_trees.specs.Syntax.{expression, cast}
use Rattle.sp_parse_trees.specs.View.{tree_of, type_name_of}
use Rattle.sp_parse_grammar.specs.CTokens.{is_specifier, view}
use Rattle.sp_parse_tokens.specs.Sorts.{sort_of}
use Rattle.sp_parse_expr_steps.specs.Reading.{operand_seen, first_sort}
use Rattle.sp_parse_expr_steps.proofs.Marks.{opening_is}
use Rattle.sp_parse_expr_steps.proofs.Casts.{cast_operand_stop, cast_read}
use Rattle.sp_parse_expr_ends.proofs.Firsts.{begun_by}
use Rattle.sp_parse_expr_ends.proofs.conversions.converted.Goals as goal

pub returns-in_err-operand : goal.returns-in_err-operand
returns-in_err-operand c =
    let p = err_from_is_err_and c.from_residual.result c.from_residual.ensures.1 in
    let types = c.args.context.types.now in
    let b = begun_by c.args.tokens.now c.requires.ended in
    let stands = sym (ap (λ v. is_specifier (first_sort types v)) b.whole) ∙ c.requires.begun in
    let y = c.args.opening in
    let xs = c.args.tokens.now in
    let is = sym (opening_is (view types (sort_of y.kind)) c.requires.opening) in
    let target = c.args.target in
    let t = c.requires.target in
    rw (p.1, p.2) (cast_operand_stop types c.args.context.scope c.args.depth (y ∷ xs) xs b.behind y b.first refl is b.whole stands c.requires.room (type_name_of target.tree) t.behind target.depth t.mid t.read target.rest.now t.closes c.in_err-operand.field-0.0 (MatchResult-at_err _ _ _ c.in_err-operand.ensures c.requires.read))

pub returns : goal.returns
returns c =
    let types = c.args.context.types.now in
    let b = begun_by c.args.tokens.now c.requires.ended in
    let stands = sym (ap (λ v. is_specifier (first_sort types v)) b.whole) ∙ c.requires.begun in
    let y = c.args.opening in
    let xs = c.args.tokens.now in
    let is = sym (opening_is (view types (sort_of y.kind)) c.requires.opening) in
    let target = c.args.target in
    let t = c.requires.target in
    let last = c.in_ok-operand.operand in
    let e = tree_of last.tree.tree in
    let w = MatchResult-at_ok _ _ _ c.in_ok-operand.ensures.0 c.requires.read in
    let makes = c.in_ok-tree.ensures ∙ ap (λ n. expression (cast (type_name_of n) e) y.place y.place) c.in_ok-operand.ensures.1 in
    cast_read types c.args.context.scope c.args.depth (y ∷ xs) xs b.behind y b.first refl is b.whole stands c.requires.room (type_name_of target.tree) t.behind target.depth t.mid t.read target.rest.now t.closes (operand_seen last.tree) last.depth c.max.result last.rest.now (tree_of c.in_ok-tree.tree) w c.max.ensures makes
