use Rattle.std.proofs.Common.{◌≡◌, ◌∷◌, ◌+◌, ◌-◌, map, length, sym, ap, ◌∙◌, arith}
use Rattle.std.proofs.lemmas.Result.{err_from_is_err_and, MatchResult-at_ok, MatchResult-at_err}
use Rattle.sp_parse_trees.specs.View.{tree_of}
use Rattle.sp_parse_trees.specs.Depth.{depth as depth_of}
use Rattle.sp_parse_grammar.specs.CTokens.{view}
use Rattle.sp_parse_grammar.specs.CTokens as sorts_there
use Rattle.sp_parse_grammar.specs.CTable as grammar
use Rattle.sp_parse_tokens.specs.Sorts.{terminal, sort_of}
use Rattle.sp_parse_tokens.specs.SyntaxTrees.{syntax_trees}
use Rattle.sp_parse_tokens.specs.Scopes.{there, allowed_seen}
use Rattle.sp_parse_expr_steps.proofs.Steps.{got, last}
use Rattle.sp_parse_expr_steps.proofs.Parts.{stop_part, stop_mark, on_mark}
use Rattle.sp_parse_expr_steps.proofs.Marks.{opening_is}
use Rattle.sp_parse_expr_steps.proofs.Suffixes.{suffixed, call_on, call_more, call_closing, allowing}
use Rattle.sp_parse_expr_ends.proofs.expressions.called.Goals as goal

pub returns-in_err-arguments : goal.returns-in_err-arguments
returns-in_err-arguments c =
    let p = err_from_is_err_and c.from_residual.result c.from_residual.ensures.1 in
    let types = c.args.context.types.now in
    let g = there types c.args.context.scope in
    let x = c.args.opening in
    let e = tree_of c.args.inner in
    let is = opening_is (view types (sort_of x.kind)) c.requires.opening in
    rw (p.1, p.2) (stop_part g g g (grammar.suffixes e) (grammar.suffixes e) grammar.arguments (λ a. a) (call_closing g e (terminal x)) c.args.depth (c.args.depth - 1) (x ∷ c.args.tokens.now) c.args.tokens.now (call_on g e x c.args.tokens.now (sym is)) (omega arith) c.in_err-arguments.field-0.0 (MatchResult-at_err _ _ _ c.in_err-arguments.ensures c.requires.read))

pub returns-in_err-rest : goal.returns-in_err-rest
returns-in_err-rest c =
    let p = err_from_is_err_and c.from_residual-in_err-rest.result c.from_residual-in_err-rest.ensures.1 in
    let types = c.args.context.types.now in
    let g = there types c.args.context.scope in
    let x = c.args.opening in
    let e = tree_of c.args.inner in
    let is = opening_is (view types (sort_of x.kind)) c.requires.opening in
    let es = map tree_of c.in_ok-arguments.arguments.tree.items in
    let h = MatchResult-at_ok _ _ _ c.in_ok-arguments.ensures.0 c.requires.read in
    let on = allowing g (grammar.suffixes e) (grammar.suffixes e) (λ a. a) sorts_there.closing (call_more g e (terminal x) es) (x ∷ c.args.tokens.now) c.in_ok-arguments.arguments.rest.now (grammar.at_first es) (allowed_seen c.call_allowed-also_allowed.result) (sym c.call_allowed-also_allowed.ensures) (got (call_on g e x c.args.tokens.now (sym is)) h.reads) in
    rw (p.1, p.2) (stop_mark types c.args.context.scope g (grammar.suffixes e) (grammar.suffixes e) (λ a. a) sorts_there.closing c.call_allowed-also_allowed.result (call_more g e (terminal x) es) g c.args.depth (x ∷ c.args.tokens.now) c.in_ok-arguments.arguments.rest.now on h.ended c.in_err-rest.field-0.0 (MatchResult-at_err _ _ _ c.in_err-rest.ensures c.expect-next.ensures))

pub returns : goal.returns
returns c =
    let types = c.args.context.types.now in
    let g = there types c.args.context.scope in
    let x = c.args.opening in
    let e = tree_of c.args.inner in
    let is = opening_is (view types (sort_of x.kind)) c.requires.opening in
    let es = map tree_of c.in_ok-arguments.arguments.tree.items in
    let h = MatchResult-at_ok _ _ _ c.in_ok-arguments.ensures.0 c.requires.read in
    let on = allowing g (grammar.suffixes e) (grammar.suffixes e) (λ a. a) sorts_there.closing (call_more g e (terminal x) es) (x ∷ c.args.tokens.now) c.in_ok-arguments.arguments.rest.now (grammar.at_first es) (allowed_seen c.call_allowed-also_allowed.result) (sym c.call_allowed-also_allowed.ensures) (got (call_on g e x c.args.tokens.now (sym is)) h.reads) in
    let closes = MatchResult-at_ok _ _ _ c.in_ok-rest.ensures.0 c.expect-next.ensures in
    let made = syntax_trees.call e (terminal x) es in
    let behind = on_mark types c.args.context.scope g (grammar.suffixes e) (grammar.suffixes e) (λ a. a) sorts_there.closing c.call_allowed-also_allowed.result (call_more g e (terminal x) es) g (x ∷ c.args.tokens.now) c.in_ok-arguments.arguments.rest.now c.in_ok-rest.rest.now on closes in
    let less : length c.in_ok-arguments.arguments.rest.now ≡ length (closes.first ∷ c.in_ok-rest.rest.now) = ap length closes.whole in
    let deep : 1 + c.max.result ≡ depth_of made = omega (arith, c.max.ensures, c.requires.deep, h.deep) in
    suffixed g e made (tree_of c.in_ok-tree.tree) c.args.depth (1 + c.max.result) (x ∷ c.args.tokens.now) c.in_ok-rest.rest.now (last behind) (c.in_ok-tree.ensures ∙ ap (λ v. syntax_trees.call (tree_of v.0) (terminal x) (map tree_of v.1.items)) c.in_ok-rest.ensures.1 ∙ ap (λ v. syntax_trees.call (tree_of v) (terminal x) es) c.in_ok-arguments.ensures.1) deep (omega (arith, c.max.ensures, h.shallow, c.requires.shallow)) closes.ended (omega (arith, h.fewer, less))
