use Rattle.std.proofs.Common.{◌≡◌, ◌∷◌, ◌+◌, ◌-◌, length, sym, ap, ◌∙◌, arith}
use Rattle.std.proofs.lemmas.Result.{err_from_is_err_and, MatchResult-at_ok, MatchResult-at_err}
use Rattle.sp_parse_trees.specs.View.{tree_of}
use Rattle.sp_parse_trees.specs.Depth.{depth as depth_of}
use Rattle.sp_parse_grammar.specs.CTokens.{view}
use Rattle.sp_parse_grammar.specs.CTokens as sorts_there
use Rattle.sp_parse_grammar.specs.CTable as grammar
use Rattle.sp_parse_tokens.specs.Sorts.{terminal, sort_of}
use Rattle.sp_parse_tokens.specs.SyntaxTrees.{syntax_trees}
use Rattle.sp_parse_tokens.specs.declared.scope.AlsoAllowed.TheVariants as also
use Rattle.sp_parse_tokens.specs.Scopes.{there}
use Rattle.sp_parse_expr_steps.proofs.Steps.{got, last}
use Rattle.sp_parse_expr_steps.proofs.Parts.{stop_part, stop_mark, on_mark}
use Rattle.sp_parse_expr_steps.proofs.Marks.{bracket_is}
use Rattle.sp_parse_expr_steps.proofs.Suffixes.{suffixed, index_on, index_more, index_closing}
use Rattle.sp_parse_expr_ends.proofs.expressions.indexed.Goals as goal

pub returns-in_err-index : goal.returns-in_err-index
returns-in_err-index c =
    let p = err_from_is_err_and c.from_residual.result c.from_residual.ensures.1 in
    let types = c.args.context.types.now in
    let g = there types c.args.context.scope in
    let x = c.args.opening in
    let e = tree_of c.args.inner in
    let is = bracket_is (view types (sort_of x.kind)) c.requires.opening in
    rw (p.1, p.2) (stop_part g g g (grammar.suffixes e) (grammar.suffixes e) (grammar.level 13) (λ a. a) (index_closing g e (terminal x)) c.args.depth (c.args.depth - 1) (x ∷ c.args.tokens.now) c.args.tokens.now (index_on g e x c.args.tokens.now (sym is)) (omega arith) c.in_err-index.field-0.0 (MatchResult-at_err _ _ _ c.in_err-index.ensures c.requires.read))

pub returns-in_err-rest : goal.returns-in_err-rest
returns-in_err-rest c =
    let p = err_from_is_err_and c.from_residual-in_err-rest.result c.from_residual-in_err-rest.ensures.1 in
    let types = c.args.context.types.now in
    let g = there types c.args.context.scope in
    let x = c.args.opening in
    let e = tree_of c.args.inner in
    let is = bracket_is (view types (sort_of x.kind)) c.requires.opening in
    let h = MatchResult-at_ok _ _ _ c.in_ok-index.ensures.0 c.requires.read in
    let o = tree_of c.in_ok-index.index.tree.tree in
    rw (p.1, p.2) (stop_mark types c.args.context.scope g (grammar.suffixes e) (grammar.suffixes e) (λ a. a) sorts_there.unbracket also.Nothing (index_more g e (terminal x) o) g c.args.depth (x ∷ c.args.tokens.now) c.in_ok-index.index.rest.now (got (index_on g e x c.args.tokens.now (sym is)) h.reads) h.ended c.in_err-rest.field-0.0 (MatchResult-at_err _ _ _ c.in_err-rest.ensures c.expect-next.ensures))

pub returns : goal.returns
returns c =
    let types = c.args.context.types.now in
    let g = there types c.args.context.scope in
    let x = c.args.opening in
    let e = tree_of c.args.inner in
    let is = bracket_is (view types (sort_of x.kind)) c.requires.opening in
    let h = MatchResult-at_ok _ _ _ c.in_ok-index.ensures.0 c.requires.read in
    let o = tree_of c.in_ok-index.index.tree.tree in
    let closes = MatchResult-at_ok _ _ _ c.in_ok-rest.ensures.0 c.expect-next.ensures in
    let made = syntax_trees.index e (terminal x) o in
    let behind = on_mark types c.args.context.scope g (grammar.suffixes e) (grammar.suffixes e) (λ a. a) sorts_there.unbracket also.Nothing (index_more g e (terminal x) o) g (x ∷ c.args.tokens.now) c.in_ok-index.index.rest.now c.in_ok-rest.rest.now (got (index_on g e x c.args.tokens.now (sym is)) h.reads) closes in
    let less : length c.in_ok-index.index.rest.now ≡ length (closes.first ∷ c.in_ok-rest.rest.now) = ap length closes.whole in
    let deep : 1 + c.max.result ≡ depth_of made = omega (arith, c.max.ensures, c.requires.deep, h.deep) in
    suffixed g e made (tree_of c.in_ok-tree.tree) c.args.depth (1 + c.max.result) (x ∷ c.args.tokens.now) c.in_ok-rest.rest.now (last behind) (c.in_ok-tree.ensures ∙ ap (λ v. syntax_trees.index (tree_of v.0) (terminal x) (tree_of v.1)) c.in_ok-rest.ensures.1 ∙ ap (λ v. syntax_trees.index (tree_of v) (terminal x) o) c.in_ok-index.ensures.1) deep (omega (arith, c.max.ensures, h.shallow, c.requires.shallow)) closes.ended (omega (arith, h.fewer, less))
