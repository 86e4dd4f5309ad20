use Rattle.std.proofs.Common.{◌≡◌, ◌+◌, ◌∷◌, ◌++◌, [], map, refl, sym, ap, ◌∙◌, subst, arith}
use Rattle.std.specs.Prelude.{◌||◌, max, option_map}
use Rattle.std.proofs.lemmas.Result.{err_from_is_err_and, MatchResult-at_ok, MatchResult-at_err}
use Rattle.sp_parse_trees.specs.Syntax as syntax
use Rattle.sp_parse_trees.specs.Syntax.{statement}
use Rattle.sp_parse_trees.specs.View.{statement_of, tree_of, declaration_of, declarations}
use Rattle.sp_parse_trees.specs.Depth.{statements_depth}
use Rattle.sp_parse_grammar.specs.CTokens.{is_mark}
use Rattle.sp_parse_grammar.specs.CTokens as sorts_there
use Rattle.sp_parse_grammar.specs.CTable as grammar
use Rattle.sp_parse_grammar.specs.CTable.{begins_expression, begins_other}
use Rattle.sp_parse_grammar.specs.Table.{done}
use Rattle.std.proofs.Common.{Some}
use Rattle.sp_parse_tokens.specs.Sorts.{c_tokens}
use Rattle.sp_parse_tokens.specs.Makers.{all_statements, some_statement, end_of_branches}
use Rattle.sp_parse_tokens.specs.Scopes.{there}
use Rattle.sp_parse_tokens.proofs.Settled.{statements_snoc}
use Rattle.sp_parse_expr_steps.specs.Reading.{IsStep}
use Rattle.sp_parse_expr_steps.proofs.Steps.{begun, got, last}
use Rattle.sp_parse_expr_steps.proofs.Parts.{stop_part}
use Rattle.sp_parse_expr_steps.proofs.ListSteps.{map_more}
use Rattle.sp_parse_statements.specs.Parts.{prefixed}
use Rattle.sp_parse_statements.proofs.StatementSteps as steps
use Rattle.sp_parse_statements.proofs.statements.+statement.Goals as goal

pub read_prefixed-returns-in_err-body : goal.read_prefixed-returns-in_err-body
read_prefixed-returns-in_err-body t c =
    let p = err_from_is_err_and c.from_residual-in_err-body.result c.from_residual-in_err-body.ensures.1 in
    rw (p.1, p.2) (steps.prefixed_stop (there c.args.context.types.now c.args.context.scope) c.args.depth c.in_ok-prefix.prefix.depth c.args.tokens.now c.in_ok-prefix.prefix.rest.now c.in_ok-prefix.prefix.tree c.in_ok-prefix.ensures c.requires.room c.in_err-body.field-0.0 (MatchResult-at_err _ _ _ c.in_err-body.ensures c.read_statement-next.ensures))

pub read_prefixed-returns : goal.read_prefixed-returns
read_prefixed-returns t c =
    let b = c.in_ok-body.body in
    let same = c.in_ok-tree.ensures ∙ ap (λ w. prefixed w c.first_place.result (statement_of b.tree)) c.in_ok-body.ensures.1 ∙ ap (λ q. prefixed c.in_ok-prefix.prefix.tree q (statement_of b.tree)) c.first_place.ensures in
    steps.prefixed_read (there c.args.context.types.now c.args.context.scope) c.args.depth c.in_ok-prefix.prefix.depth c.args.tokens.now c.in_ok-prefix.prefix.rest.now c.in_ok-prefix.prefix.tree c.in_ok-prefix.ensures c.requires.room b.depth (1 + c.max-reached.result) b.rest.now (statement_of b.tree) (statement_of c.in_ok-tree.tree) (MatchResult-at_ok _ _ _ c.in_ok-body.ensures.0 c.read_statement-next.ensures) (ap (λ k. 1 + k) c.max-reached.ensures) same

pub read_if-returns-in_err-condition : goal.read_if-returns-in_err-condition
read_if-returns-in_err-condition t c =
    let p = err_from_is_err_and c.from_residual.result c.from_residual.ensures.1 in
    rw (p.1, p.2) (steps.if_condition (there c.args.context.types.now c.args.context.scope) c.args.depth c.args.tokens.now c.next_token.result.1.now c.next_token.result.0 c.next_token.ensures c.requires.room c.requires.head c.in_err-condition.field-0.0 c.in_err-condition.ensures)

pub read_if-returns-in_err-branch : goal.read_if-returns-in_err-branch
read_if-returns-in_err-branch t c =
    let p = err_from_is_err_and c.from_residual-in_err-branch.result c.from_residual-in_err-branch.ensures.1 in
    rw (p.1, p.2) (steps.if_first (there c.args.context.types.now c.args.context.scope) c.args.depth c.args.tokens.now c.next_token.result.1.now c.next_token.result.0 c.next_token.ensures c.requires.room c.requires.head c.in_ok-condition.condition.depth (tree_of c.in_ok-condition.condition.tree) c.in_ok-condition.condition.rest.now c.in_ok-condition.ensures c.in_err-branch.field-0.0 (MatchResult-at_err _ _ _ c.in_err-branch.ensures c.read_statement-next.ensures))

pub read_if-returns-in_err-other : goal.read_if-returns-in_err-other
read_if-returns-in_err-other t c =
    let p = err_from_is_err_and c.from_residual-in_err-other.result c.from_residual-in_err-other.ensures.1 in
    rw (p.1, p.2) (steps.if_second (there c.args.context.types.now c.args.context.scope) c.args.depth c.args.tokens.now c.next_token.result.1.now c.next_token.result.0 c.next_token.ensures c.requires.room c.requires.head c.in_ok-condition.condition.depth (tree_of c.in_ok-condition.condition.tree) c.in_ok-condition.condition.rest.now c.in_ok-condition.ensures c.in_ok-branch.branch.depth (statement_of c.in_ok-branch.branch.tree) c.in_ok-branch.branch.rest.now (MatchResult-at_ok _ _ _ c.in_ok-branch.ensures.0 c.read_statement-next.ensures) c.in_err-other.field-0.0 (MatchResult-at_err _ _ _ c.in_err-other.ensures c.read_else-next.ensures))

pub read_if-returns : goal.read_if-returns
read_if-returns t c =
    let o = c.in_ok-other.other in
    let others = option_map statement_of o.tree in
    let same = c.in_ok-tree.ensures ∙ ap (λ k. statement (syntax.if_else (tree_of k.0) (statement_of k.1) (some_statement others)) c.next_token.result.0.place (end_of_branches (statement_of k.1) others)) c.in_ok-other.ensures.1 ∙ ap (λ k. statement (syntax.if_else (tree_of k) (statement_of c.in_ok-branch.branch.tree) (some_statement others)) c.next_token.result.0.place (end_of_branches (statement_of c.in_ok-branch.branch.tree) others)) c.in_ok-branch.ensures.1 in
    steps.if_read (there c.args.context.types.now c.args.context.scope) c.args.depth c.args.tokens.now c.next_token.result.1.now c.next_token.result.0 c.next_token.ensures c.requires.room c.requires.head c.in_ok-condition.condition.depth (tree_of c.in_ok-condition.condition.tree) c.in_ok-condition.condition.rest.now c.in_ok-condition.ensures c.in_ok-branch.branch.depth (statement_of c.in_ok-branch.branch.tree) c.in_ok-branch.branch.rest.now (MatchResult-at_ok _ _ _ c.in_ok-branch.ensures.0 c.read_statement-next.ensures) o.depth (1 + c.max-reached.result) (option_map statement_of o.tree) o.rest.now (statement_of c.in_ok-tree.tree) (MatchResult-at_ok _ _ _ c.in_ok-other.ensures.0 c.read_else-next.ensures) (ap (λ k. 1 + k) (c.max-reached.ensures ∙ ap (λ k. max c.in_ok-condition.condition.depth k) c.max.ensures)) same

pub read_else-returns-then-not-is_mark : goal.read_else-returns-then-not-is_mark
read_else-returns-then-not-is_mark t c =
    steps.else_none (there c.args.context.types.now c.args.context.scope) c.args.tokens.now c.next_token.result.1.now c.next_token.result.0 c.next_token.ensures c.args.depth (sym (c.is_mark.ensures ∙ ap (λ s. is_mark sorts_there.else_word s) c.sort_at.ensures) ∙ c.if-not-is_mark.true) c.requires

pub read_else-returns-in_err-other : goal.read_else-returns-in_err-other
read_else-returns-in_err-other t c =
    let p = err_from_is_err_and c.from_residual.result c.from_residual.ensures.1 in
    rw (p.1, p.2) (stop_part (there c.args.context.types.now c.args.context.scope) (there c.args.context.types.now c.args.context.scope) (there c.args.context.types.now c.args.context.scope) grammar.else_part grammar.else_part grammar.statement (λ a. a) (λ a. done (Some a)) c.args.depth c.args.depth c.args.tokens.now c.next_token.result.1.now (steps.else_on (there c.args.context.types.now c.args.context.scope) c.args.tokens.now c.next_token.result.1.now c.next_token.result.0 c.next_token.ensures (sym (c.is_mark.ensures ∙ ap (λ s. is_mark sorts_there.else_word s) c.sort_at.ensures) ∙ c.if-not-is_mark.false)) (omega arith) c.in_err-other.field-0.0 c.in_err-other.ensures)

pub read_else-returns : goal.read_else-returns
read_else-returns t c =
    let o = c.in_ok-other.other in
    steps.else_read (there c.args.context.types.now c.args.context.scope) c.args.tokens.now c.next_token.result.1.now c.next_token.result.0 c.next_token.ensures c.args.depth o.depth (statement_of o.tree) o.rest.now (sym (c.is_mark.ensures ∙ ap (λ s. is_mark sorts_there.else_word s) c.sort_at.ensures) ∙ c.if-not-is_mark.false) c.in_ok-other.ensures

pub read_do-returns-in_err-body : goal.read_do-returns-in_err-body
read_do-returns-in_err-body t c =
    let p = err_from_is_err_and c.from_residual.result c.from_residual.ensures.1 in
    rw (p.1, p.2) (steps.do_body (there c.args.context.types.now c.args.context.scope) c.args.depth c.args.tokens.now c.next_token.result.1.now c.next_token.result.0 c.next_token.ensures c.requires.room c.requires.head c.in_err-body.field-0.0 c.in_err-body.ensures)

pub read_do-returns-in_err-end : goal.read_do-returns-in_err-end
read_do-returns-in_err-end t c =
    let p = err_from_is_err_and c.from_residual-in_err-end.result c.from_residual-in_err-end.ensures.1 in
    rw (p.1, p.2) (steps.do_stop (there c.args.context.types.now c.args.context.scope) c.args.depth c.args.tokens.now c.next_token.result.1.now c.next_token.result.0 c.next_token.ensures c.requires.room c.requires.head c.in_ok-body.body.depth (statement_of c.in_ok-body.body.tree) c.in_ok-body.body.rest.now c.in_ok-body.ensures c.in_err-end.field-0.0 (MatchResult-at_err _ _ _ c.in_err-end.ensures c.read_do_end-next.ensures))

pub read_do-returns : goal.read_do-returns
read_do-returns t c =
    let o = c.in_ok-end.end in
    steps.do_read (there c.args.context.types.now c.args.context.scope) c.args.depth c.args.tokens.now c.next_token.result.1.now c.next_token.result.0 c.next_token.ensures c.requires.room c.requires.head c.in_ok-body.body.depth (statement_of c.in_ok-body.body.tree) c.in_ok-body.body.rest.now c.in_ok-body.ensures o.depth (1 + c.max-reached.result) (tree_of o.tree.condition) o.tree.end o.rest.now (statement_of c.in_ok-tree.tree) (MatchResult-at_ok _ _ _ c.in_ok-end.ensures.0 c.read_do_end-next.ensures) (ap (λ k. 1 + k) c.max-reached.ensures) (c.in_ok-tree.ensures ∙ ap (λ k. statement (syntax.do_loop (statement_of k) (tree_of o.tree.condition)) c.next_token.result.0.place o.tree.end) c.in_ok-end.ensures.1)

pub read_block-returns : goal.read_block-returns
read_block-returns t c =
    steps.block_result (there c.args.context.types.now c.args.context.scope) c.args.depth c.args.tokens.now c.next_token.result.1.now c.next_token.result.0 c.next_token.ensures c.requires.head c.read_compound.result c.read_compound.ensures

pub read_compound-returns-in_err-declarations : goal.read_compound-returns-in_err-declarations
read_compound-returns-in_err-declarations t c =
    let p = err_from_is_err_and c.from_residual.result c.from_residual.ensures.1 in
    rw (p.1, p.2) (steps.compound_first c.args.context.types.now c.args.context.scope c.args.depth c.args.tokens.now c.requires.room c.in_err-declarations.field-0.0 c.in_err-declarations.ensures)

pub read_compound-returns-in_err-statements : goal.read_compound-returns-in_err-statements
read_compound-returns-in_err-statements t c =
    let p = err_from_is_err_and c.from_residual-in_err-statements.result c.from_residual-in_err-statements.ensures.1 in
    rw (p.1, p.2) (steps.compound_second c.args.context.types.now c.args.context.scope c.args.depth c.args.tokens.now c.requires.room c.in_ok-declarations.declarations.depth (map declaration_of c.in_ok-declarations.declarations.tree.items) c.in_ok-declarations.declarations.rest.now c.in_ok-declarations.ensures c.in_err-statements.field-0.0 (MatchResult-at_err _ _ _ c.in_err-statements.ensures c.read_statements-next.ensures))

pub read_compound-returns-in_err-rest : goal.read_compound-returns-in_err-rest
read_compound-returns-in_err-rest t c =
    let p = err_from_is_err_and c.from_residual-in_err-rest.result c.from_residual-in_err-rest.ensures.1 in
    rw (p.1, p.2) (steps.compound_third c.args.context.types.now c.args.context.scope c.args.depth c.args.tokens.now c.requires.room c.in_ok-declarations.declarations.depth (map declaration_of c.in_ok-declarations.declarations.tree.items) c.in_ok-declarations.declarations.rest.now c.in_ok-declarations.ensures c.in_ok-statements.statements.depth (map statement_of c.in_ok-statements.statements.tree.items) c.in_ok-statements.statements.rest.now (MatchResult-at_ok _ _ _ c.in_ok-statements.ensures.0 c.read_statements-next.ensures) c.in_err-rest.field-0.0 (MatchResult-at_err _ _ _ c.in_err-rest.ensures c.expect-next.ensures))

pub read_compound-returns : goal.read_compound-returns
read_compound-returns t c =
    let items = c.in_ok-statements.statements.tree.items in
    let same = c.block.ensures ∙ ap (λ k. statement (syntax.block (declarations (map declaration_of k.0.items)) (all_statements (map statement_of k.1.items))) c.args.brace c.first_place-end.result) c.in_ok-rest.ensures.1 ∙ ap (λ k. statement (syntax.block (declarations (map declaration_of k.items)) (all_statements (map statement_of items))) c.args.brace c.first_place-end.result) c.in_ok-statements.ensures.1 in
    steps.compound_read c.args.context.types.now c.args.context.scope c.args.depth c.args.tokens.now c.requires.room c.in_ok-declarations.declarations.depth (map declaration_of c.in_ok-declarations.declarations.tree.items) c.in_ok-declarations.declarations.rest.now c.in_ok-declarations.ensures c.in_ok-statements.statements.depth (map statement_of c.in_ok-statements.statements.tree.items) c.in_ok-statements.statements.rest.now (MatchResult-at_ok _ _ _ c.in_ok-statements.ensures.0 c.read_statements-next.ensures) c.in_ok-rest.rest.now c.args.brace c.first_place-end.result (1 + c.max.result) (statement_of c.block.result) c.first_place-end.ensures (MatchResult-at_ok _ _ _ c.in_ok-rest.ensures.0 c.expect-next.ensures) (ap (λ k. 1 + k) c.max.ensures) same

pub read_statements-statements-init : goal.read_statements-statements-init
read_statements-statements-init t c =
    let g = (there c.args.context.types.now c.args.context.scope) in
    let same : map statement_of c.new-all.result.items ≡ [] = ap (λ v. map statement_of v) c.new-all.ensures.items in
    record {
      step = subst (λ v. IsStep g (grammar.statements []) (grammar.statements v) (λ a. a) c.args.tokens.now c.args.tokens.now) (sym same) (begun (grammar.at g (grammar.statements [])) (c_tokens c.args.tokens.now));
      deep = subst (λ v. 0 ≡ statements_depth (all_statements v)) (sym same) refl;
      shallow = omega arith;
      ended = c.requires;
      fewer = omega arith;
    }

pub read_statements-returns-in_err-next : goal.read_statements-returns-in_err-next
read_statements-returns-in_err-next t c =
    let p = err_from_is_err_and c.from_residual.result c.from_residual.ensures.1 in
    rw (p.1, p.2) (stop_part (there c.args.context.types.now c.args.context.scope) (there c.args.context.types.now c.args.context.scope) (there c.args.context.types.now c.args.context.scope) (grammar.statements []) (grammar.statements (map statement_of c.statements.all.items)) grammar.statement (λ a. a) (steps.statements_more (there c.args.context.types.now c.args.context.scope) (map statement_of c.statements.all.items)) c.args.depth c.args.depth c.args.tokens.now c.statements.rest.now (steps.statements_on (there c.args.context.types.now c.args.context.scope) [] (map statement_of c.statements.all.items) c.args.tokens.now c.statements.rest.now c.next_token.result.1.now c.next_token.result.0 c.statements.invariant.step c.next_token.ensures (sym (c.begins_statement.ensures ∙ ap (λ s. begins_expression s || begins_other s) c.sort_at.ensures) ∙ c.if-not-begins_statement.false)) (omega arith) c.in_err-next.field-0.0 (MatchResult-at_err _ _ _ c.in_err-next.ensures c.read_statement.ensures))

pub read_statements-statements-preserved : goal.read_statements-statements-preserved
read_statements-statements-preserved t c =
    let g = (there c.args.context.types.now c.args.context.scope) in
    let i = c.statements.invariant in
    let h = MatchResult-at_ok _ _ _ c.in_ok-next.ensures.0 c.read_statement.ensures in
    let ss = map statement_of c.statements.all.items in
    let v = statement_of c.in_ok-next.next.tree in
    let on = steps.statements_on g [] (map statement_of c.statements.all.items) c.args.tokens.now c.statements.rest.now c.next_token.result.1.now c.next_token.result.0 c.statements.invariant.step c.next_token.ensures (sym (c.begins_statement.ensures ∙ ap (λ s. begins_expression s || begins_other s) c.sort_at.ensures) ∙ c.if-not-begins_statement.false) in
    let more = c.in_ok-all.ensures ∙ ap (λ w. w.items ++ c.in_ok-next.next.tree ∷ []) c.in_ok-next.ensures.1 in
    let same : map statement_of c.in_ok-all.all.items ≡ ss ++ v ∷ [] = ap (λ w. map statement_of w) more ∙ map_more (λ w. statement_of w) c.statements.all.items c.in_ok-next.next.tree in
    record {
      step = subst (λ w. IsStep g (grammar.statements []) (grammar.statements w) (λ a. a) c.args.tokens.now c.in_ok-next.next.rest.now) (sym same) (last (got on h.read.reads));
      deep = subst (λ w. c.max-reached.result ≡ statements_depth (all_statements w)) (sym same) (omega (arith, c.max-reached.ensures, i.deep, h.read.deep, statements_snoc ss v));
      shallow = omega (arith, c.max-reached.ensures, i.shallow, h.read.shallow);
      ended = h.read.ended;
      fewer = omega (arith, h.fewer, i.fewer);
    }

pub read_statements-returns : goal.read_statements-returns
read_statements-returns t c =
    let i = c.statements.invariant in
    rw c.shrink_to_fit.ensures.items (steps.statements_end (there c.args.context.types.now c.args.context.scope) [] (map statement_of c.statements.all.items) c.args.tokens.now c.statements.rest.now c.next_token.result.1.now c.next_token.result.0 c.statements.invariant.step c.next_token.ensures c.args.depth c.statements.reached (sym (c.begins_statement.ensures ∙ ap (λ s. begins_expression s || begins_other s) c.sort_at.ensures) ∙ c.if-not-begins_statement.true) i.deep i.shallow i.ended i.fewer)
