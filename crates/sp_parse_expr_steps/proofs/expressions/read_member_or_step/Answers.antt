use Rattle.std.proofs.Common.{◌≡◌, ◌+◌, ◌∷◌, length, refl, sym, ap, ◌∙◌, subst, arith}
use Rattle.sp_parse_trees.specs.Syntax.{expression, after}
use Rattle.sp_parse_trees.specs.View.{tree_of}
use Rattle.sp_parse_trees.specs.Places.{place_of}
use Rattle.sp_parse_trees.specs.Depth.{depth as depth_of}
use Rattle.sp_parse_grammar.specs.CTokens as sorts_there
use Rattle.sp_parse_grammar.specs.CTokens.{view, is_mark}
use Rattle.sp_parse_grammar.specs.CTable as grammar
use Rattle.sp_parse_grammar.specs.Table.{wanted}
use Rattle.sp_parse_tokens.specs.Sorts.{terminal, sort_of, c_tokens}
use Rattle.sp_parse_tokens.specs.SyntaxTrees.{syntax_trees}
use Rattle.sp_parse_tokens.specs.Ended.{IsEnded}
use Rattle.sp_parse_tokens.specs.Scopes.{there}
use Rattle.sp_parse_tokens.specs.declared.scope.AlsoAllowed.TheVariants as also
use Rattle.sp_parse_tokens.proofs.Settled.{member_depth}
use Rattle.sp_parse_expr_steps.proofs.Steps.{last, took_token, refused}
use Rattle.sp_parse_expr_steps.proofs.Marks.{member_is}
use Rattle.sp_parse_expr_steps.proofs.Suffixes.{suffixed, member_on, step_on, ended_name, step_left}
use Rattle.sp_parse_expr_steps.proofs.Faulting.{stop_at}
use Rattle.sp_parse_expr_steps.proofs.expressions.read_member_or_step.Goals as goal

pub returns-then-not-is_name : goal.returns-then-not-is_name
returns-then-not-is_name c =
    let types = c.args.context.types.now in
    let g = there types c.args.context.scope in
    let x = c.args.token in
    let e = tree_of c.args.inner in
    let is = member_is (view g.types (sort_of x.kind)) (sym (c.is_mark.ensures ∙ ap (λ s. is_mark sorts_there.member s) c.sort_at.ensures) ∙ c.if-is_mark.true) in
    let other = sym c.is_name.ensures ∙ c.if-not-is_name.true in
    let fails = refused (member_on g e x c.args.tokens.now (sym is)) (ap c_tokens c.next_token.ensures) other in
    λ depth less. stop_at types c.args.context.scope also.Nothing (wanted (grammar.ordinary g)) g (grammar.suffixes e) depth (x ∷ c.args.tokens.now) c.args.tokens.now fails (λ y. refl) c.requires.ended c.fault.result c.fault.ensures

pub returns-then-is_mark : goal.returns-then-is_mark
returns-then-is_mark c =
    let types = c.args.context.types.now in
    let g = there types c.args.context.scope in
    let x = c.args.token in
    let n = c.next_token.result.0 in
    let xs = c.next_token.result.1.now in
    let e = tree_of c.args.inner in
    let made = syntax_trees.member e (terminal x) (terminal n) in
    let is = member_is (view g.types (sort_of x.kind)) (sym (c.is_mark.ensures ∙ ap (λ s. is_mark sorts_there.member s) c.sort_at.ensures) ∙ c.if-is_mark.true) in
    let stands = sym c.is_name.ensures ∙ c.if-not-is_name.false in
    let step = last (took_token (member_on g e x c.args.tokens.now (sym is)) (ap c_tokens c.next_token.ensures) stands) in
    let shorter : length c.args.tokens.now ≡ length (n ∷ xs) = ap length c.next_token.ensures in
    let deep : 1 + c.args.reached ≡ depth_of made = omega (arith, c.requires.deep, member_depth e x n) in
    λ depth less. suffixed g e made (tree_of c.in_ok-tree.tree) depth (1 + c.args.reached) (x ∷ c.args.tokens.now) xs step (c.in_ok-tree.ensures n c.number_of.ensures) deep (omega (arith, less)) (ended_name n xs stands (subst IsEnded c.next_token.ensures c.requires.ended)) (omega (arith, shorter))

pub returns : goal.returns
returns c =
    let g = there c.args.context.types.now c.args.context.scope in
    let x = c.args.token in
    let e = tree_of c.args.inner in
    let made = syntax_trees.postfix e (terminal x) in
    let third = sym (c.is_mark.ensures ∙ ap (λ s. is_mark sorts_there.member s) c.sort_at.ensures) ∙ c.if-is_mark.false in
    let is = step_left (view g.types (sort_of x.kind)) c.requires.suffix c.requires.no_index c.requires.no_call third in
    let same : tree_of c.in_ok-tree-2.tree ≡ made = c.in_ok-tree-2.ensures ∙ ap (λ o. expression (after o e) (place_of e) x.place) c.punct_of-punct.ensures in
    let deep : 1 + c.args.reached ≡ depth_of made = omega (arith, c.requires.deep) in
    λ depth less. suffixed g e made (tree_of c.in_ok-tree-2.tree) depth (1 + c.args.reached) (x ∷ c.args.tokens.now) c.args.tokens.now (last (step_on g e x c.args.tokens.now (sym is))) same deep (omega (arith, less)) c.requires.ended (omega arith)
