use Rattle.std.proofs.Common.{◌≡◌, true, ◌∷◌, ◌++◌, [], map, refl, sym, ap, ◌∙◌, subst, arith}
use Rattle.std.proofs.lemmas.Result.{err_from_is_err_and}
use Rattle.sp_parse_grammar.specs.CTable as grammar
use Rattle.sp_parse_grammar.specs.CTable.{begins_items, begins_specifiers}
use Rattle.sp_parse_tokens.specs.Sorts.{c_tokens}
use Rattle.sp_parse_tokens.specs.Scopes.{there}
use Rattle.sp_parse_expr_steps.specs.Reading.{IsStep}
use Rattle.sp_parse_expr_steps.proofs.Steps.{begun, got, last}
use Rattle.sp_parse_expr_steps.proofs.Parts.{stop_part}
use Rattle.sp_parse_declarations.proofs.DeclarationSteps as steps
use Rattle.sp_parse_trees.specs.View.{declaration_of, declarations}
use Rattle.sp_parse_trees.specs.Depth.{declarations_depth}
use Rattle.sp_parse_tokens.proofs.Settled.{declarations_snoc}
use Rattle.sp_parse_expr_steps.proofs.ListSteps.{map_more}
use Rattle.sp_parse_declarations.proofs.declarations.read_declarations.Goals as goal

pub declarations-init : goal.declarations-init
declarations-init c =
    let g = there c.args.context.types.now c.args.context.scope in
    let same : map declaration_of c.new-all.result.items ≡ [] = ap (λ v. map declaration_of v) c.new-all.ensures.items in
    record {
      step = subst (λ v. IsStep g (grammar.declarations []) (grammar.declarations v) (λ a. a) c.args.tokens.now c.args.tokens.now) (sym same) (begun (grammar.at g (grammar.declarations [])) (c_tokens c.args.tokens.now));
      deep = subst (λ v. 0 ≡ declarations_depth (declarations v)) (sym same) refl;
      shallow = omega arith;
      ended = c.requires;
      fewer = omega arith;
    }

pub returns-in_err-next : goal.returns-in_err-next
returns-in_err-next c =
    let p = err_from_is_err_and c.from_residual.result c.from_residual.ensures.1 in
    let g = there c.args.context.types.now c.args.context.scope in
    let i = c.declarations.invariant in
    let ds = map declaration_of c.declarations.all.items in
    let stands = sym (c.begins_specifiers.ensures ∙ ap (λ s. begins_specifiers true c.args.context.scope.in_function s) c.sort_at-sort.ensures) ∙ c.if-not-begins_specifiers.false in
    let on = steps.declarations_on g [] ds c.args.tokens.now c.declarations.rest.now c.next_token.result.1.now c.next_token.result.0 i.step c.next_token.ensures stands in
    rw (p.1, p.2) (stop_part g g g (grammar.declarations []) (grammar.declarations ds) grammar.declaration (λ a. a) (steps.declarations_more g ds) c.args.depth c.args.depth c.args.tokens.now c.declarations.rest.now on (omega arith) c.in_err-next.field-0.0 c.in_err-next.ensures)

pub declarations-preserved : goal.declarations-preserved
declarations-preserved c =
    let g = there c.args.context.types.now c.args.context.scope in
    let i = c.declarations.invariant in
    let h = c.in_ok-next.ensures in
    let ds = map declaration_of c.declarations.all.items in
    let v = declaration_of c.in_ok-next.next.tree in
    let stands = sym (c.begins_specifiers.ensures ∙ ap (λ s. begins_specifiers true c.args.context.scope.in_function s) c.sort_at-sort.ensures) ∙ c.if-not-begins_specifiers.false in
    let on = steps.declarations_on g [] ds c.args.tokens.now c.declarations.rest.now c.next_token.result.1.now c.next_token.result.0 i.step c.next_token.ensures stands in
    let same : map declaration_of c.push.new.self.items ≡ ds ++ v ∷ [] = ap (λ w. map declaration_of w) c.in_ok-push.ensures.items ∙ map_more (λ w. declaration_of w) c.declarations.all.items c.in_ok-next.next.tree in
    record {
      step = subst (λ w. IsStep g (grammar.declarations []) (grammar.declarations w) (λ a. a) c.args.tokens.now c.in_ok-next.next.rest.now) (sym same) (last (got on h.read.reads));
      deep = subst (λ w. c.max-reached.result ≡ declarations_depth (declarations w)) (sym same) (omega (arith, c.max-reached.ensures, i.deep, h.read.deep, declarations_snoc ds v));
      shallow = omega (arith, c.max-reached.ensures, i.shallow, h.read.shallow);
      ended = h.read.ended;
      fewer = omega (arith, h.fewer, i.fewer);
    }

pub returns : goal.returns
returns c =
    let g = there c.args.context.types.now c.args.context.scope in
    let i = c.declarations.invariant in
    let other = sym (c.begins_specifiers.ensures ∙ ap (λ s. begins_specifiers true c.args.context.scope.in_function s) c.sort_at-sort.ensures) ∙ c.if-not-begins_specifiers.true in
    rw c.shrink_to_fit.ensures.items (steps.declarations_end g [] (map declaration_of c.declarations.all.items) c.args.tokens.now c.declarations.rest.now c.next_token.result.1.now c.next_token.result.0 i.step c.next_token.ensures c.args.depth c.declarations.reached other i.deep i.shallow i.ended i.fewer)
