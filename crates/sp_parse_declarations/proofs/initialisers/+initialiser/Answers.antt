use Rattle.std.proofs.Common.{◌≡◌, ◌-◌, ◌∷◌, ◌++◌, [], map, length, refl, sym, ap, ◌∙◌, subst, arith}
use Rattle.std.specs.Prelude.{◌||◌, if◌then◌else◌}
use Rattle.std.proofs.lemmas.Result.{err_from_is_err_and}
use Rattle.sp_parse_trees.specs.declared.tree.DeclaratorForm.TheFolds.{fold-roll-Init}
use Rattle.sp_parse_trees.specs.declared.tree.Init.{One, List}
use Rattle.sp_parse_trees.specs.declared.tree.Init.TheVariants.{rolls-One, rolls-List}
use Rattle.sp_parse_trees.specs.Syntax as syntax
use Rattle.sp_parse_trees.specs.View.{tree_of, inits}
use Rattle.sp_parse_trees.specs.Depth.{inits_depth}
use Rattle.sp_parse_grammar.specs.CTokens.{is_mark, view}
use Rattle.sp_parse_grammar.specs.CTokens as sorts_there
use Rattle.sp_parse_grammar.specs.CTable as grammar
use Rattle.sp_parse_grammar.specs.CTable.{begins_expression}
use Rattle.sp_parse_grammar.specs.Table.{done}
use Rattle.sp_parse_tokens.specs.Sorts.{terminal, sort_of, c_tokens}
use Rattle.sp_parse_tokens.specs.SyntaxTrees.{syntax_trees}
use Rattle.sp_parse_tokens.specs.Ended.{IsEnded}
use Rattle.sp_parse_tokens.specs.Scopes.{there, allowed_seen}
use Rattle.sp_parse_tokens.proofs.Settled.{inits_snoc}
use Rattle.sp_parse_expr_steps.specs.Reading.{IsStep, operand_seen}
use Rattle.sp_parse_expr_steps.proofs.Steps.{begun, got, last}
use Rattle.sp_parse_expr_steps.proofs.Parts.{stop_part, stop_mark}
use Rattle.sp_parse_expr_steps.proofs.Marks.{brace_is}
use Rattle.sp_parse_expr_steps.proofs.ListSteps.{map_more}
use Rattle.sp_parse_expr_steps.proofs.ParameterSteps.{ended_comma}
use Rattle.sp_parse_expr_steps.proofs.Suffixes.{allowing}
use Rattle.sp_parse_declarations.specs.Seen.{init_seen, inits_seen}
use Rattle.sp_parse_declarations.proofs.InitSteps.{single_on, single_read, braced_on, braced_deep, braced_more, braced_close, braced_done, braced_read, inits_more, inits_end, inits_comma, inits_last, inits_on}
use Rattle.sp_parse_declarations.proofs.initialisers.+initialiser.Goals as goal

pub read_init-returns-in_err-value : goal.read_init-returns-in_err-value
read_init-returns-in_err-value t c =
    let p = err_from_is_err_and c.from_residual.result c.from_residual.ensures.1 in
    let g = there c.args.context.types.now c.args.context.scope in
    let other = sym (c.is_mark.ensures ∙ ap (λ s. is_mark sorts_there.brace s) c.sort_at.ensures) ∙ c.if-not-is_mark.true in
    rw (p.1, p.2) (stop_part g g g grammar.init grammar.init (grammar.level 12) (λ a. a) (λ o. done (syntax_trees.single o.tree)) c.args.depth (c.args.depth - 1) c.args.tokens.now c.args.tokens.now (single_on g c.args.tokens.now c.next_token.result.1.now c.next_token.result.0 c.next_token.ensures other) (omega arith) c.in_err-value.field-0.0 c.in_err-value.ensures)

pub read_init-returns-then-not-is_mark : goal.read_init-returns-then-not-is_mark
read_init-returns-then-not-is_mark t c =
    let g = there c.args.context.types.now c.args.context.scope in
    let value = c.in_ok-value.value in
    let other = sym (c.is_mark.ensures ∙ ap (λ s. is_mark sorts_there.brace s) c.sort_at.ensures) ∙ c.if-not-is_mark.true in
    let makes : init_seen (One value.tree.tree) ≡ syntax.one (tree_of value.tree.tree) = rw (sym (rolls-One value.tree.tree)) (rw fold-roll-Init refl) in
    single_read g c.args.tokens.now c.next_token.result.1.now c.next_token.result.0 c.next_token.ensures c.args.depth value.depth value.rest.now (operand_seen value.tree) (init_seen (One value.tree.tree)) other c.requires.room c.in_ok-value.ensures makes

pub read_init-returns-then-depth-lt3 : goal.read_init-returns-then-depth-lt3
read_init-returns-then-depth-lt3 t c =
    let g = there c.args.context.types.now c.args.context.scope in
    let x = c.next_token.result.0 in
    let is = brace_is (view g.types (sort_of x.kind)) (sym (c.is_mark.ensures ∙ ap (λ s. is_mark sorts_there.brace s) c.sort_at.ensures) ∙ c.if-not-is_mark.false) in
    (braced_deep g c.args.tokens.now c.next_token.result.1.now x c.next_token.ensures c.args.depth (sym is) (omega (arith, c.if-depth-lt3.true)), c.requires.ended)

pub read_init-returns-in_err-first : goal.read_init-returns-in_err-first
read_init-returns-in_err-first t c =
    let p = err_from_is_err_and c.from_residual-in_err-first.result c.from_residual-in_err-first.ensures.1 in
    let g = there c.args.context.types.now c.args.context.scope in
    let x = c.next_token.result.0 in
    let is = brace_is (view g.types (sort_of x.kind)) (sym (c.is_mark.ensures ∙ ap (λ s. is_mark sorts_there.brace s) c.sort_at.ensures) ∙ c.if-not-is_mark.false) in
    rw (p.1, p.2) (stop_part g g g grammar.init grammar.init grammar.init (λ a. a) (braced_more g (terminal x)) c.args.depth (c.args.depth - 1) c.args.tokens.now c.next_token.result.1.now (braced_on g c.args.tokens.now c.next_token.result.1.now x c.next_token.ensures (sym is)) (omega arith) c.in_err-first.field-0.0 c.in_err-first.ensures)

pub read_init-returns-in_err-list : goal.read_init-returns-in_err-list
read_init-returns-in_err-list t c =
    let p = err_from_is_err_and c.from_residual-in_err-list.result c.from_residual-in_err-list.ensures.1 in
    let g = there c.args.context.types.now c.args.context.scope in
    let x = c.next_token.result.0 in
    let first = c.in_ok-first.first in
    let is = brace_is (view g.types (sort_of x.kind)) (sym (c.is_mark.ensures ∙ ap (λ s. is_mark sorts_there.brace s) c.sort_at.ensures) ∙ c.if-not-is_mark.false) in
    let on = got (braced_on g c.args.tokens.now c.next_token.result.1.now x c.next_token.ensures (sym is)) c.in_ok-first.ensures.read.reads in
    rw (p.1, p.2) (stop_part g g g grammar.init grammar.init (grammar.inits (init_seen first.tree ∷ [])) (λ a. a) (braced_close g (terminal x)) c.args.depth (c.args.depth - 1) c.args.tokens.now first.rest.now on (omega arith) c.in_err-list.field-0.0 c.in_err-list.ensures)

pub read_init-returns-in_err-rest : goal.read_init-returns-in_err-rest
read_init-returns-in_err-rest t c =
    let p = err_from_is_err_and c.from_residual-in_err-rest.result c.from_residual-in_err-rest.ensures.1 in
    let types = c.args.context.types.now in
    let g = there types c.args.context.scope in
    let x = c.next_token.result.0 in
    let list = c.in_ok-list.list in
    let h = c.in_ok-list.ensures in
    let is = brace_is (view g.types (sort_of x.kind)) (sym (c.is_mark.ensures ∙ ap (λ s. is_mark sorts_there.brace s) c.sort_at.ensures) ∙ c.if-not-is_mark.false) in
    let on = got (got (braced_on g c.args.tokens.now c.next_token.result.1.now x c.next_token.ensures (sym is)) c.in_ok-first.ensures.read.reads) h.reads in
    let also_allowed = c.allowed_after-also_allowed.result in
    let here = allowing g grammar.init grammar.init (λ a. a) sorts_there.unbrace (braced_done g (terminal x) (inits_seen list.tree)) c.args.tokens.now list.rest.now (if list.tree.comma then grammar.for_name else grammar.plainly) (allowed_seen also_allowed) (sym c.allowed_after-also_allowed.ensures) on in
    rw (p.1, p.2) (stop_mark types c.args.context.scope g grammar.init grammar.init (λ a. a) sorts_there.unbrace also_allowed (braced_done g (terminal x) (inits_seen list.tree)) g c.args.depth c.args.tokens.now list.rest.now here h.ended c.in_err-rest.field-0.0 c.in_err-rest.ensures)

pub read_init-returns : goal.read_init-returns
read_init-returns t c =
    let types = c.args.context.types.now in
    let g = there types c.args.context.scope in
    let x = c.next_token.result.0 in
    let first = c.in_ok-first.first in
    let list = c.in_ok-list.list in
    let is = brace_is (view g.types (sort_of x.kind)) (sym (c.is_mark.ensures ∙ ap (λ s. is_mark sorts_there.brace s) c.sort_at.ensures) ∙ c.if-not-is_mark.false) in
    let makes : init_seen (List list.tree.all list.tree.comma) ≡ syntax.list (inits (map init_seen list.tree.all.items)) list.tree.comma = rw (sym (rolls-List list.tree.all list.tree.comma)) (rw fold-roll-Init refl) in
    braced_read types c.args.context.scope c.args.depth first.depth list.depth c.args.tokens.now c.next_token.result.1.now first.rest.now list.rest.now c.in_ok-rest.rest.now x (init_seen first.tree) (inits_seen list.tree) (init_seen (List list.tree.all list.tree.comma)) c.allowed_after-also_allowed.result c.next_token.ensures (sym is) c.requires.room c.in_ok-first.ensures c.in_ok-list.ensures (sym c.allowed_after-also_allowed.ensures) c.in_ok-rest.ensures makes

pub read_inits-inits-init : goal.read_inits-inits-init
read_inits-inits-init t c =
    let g = there c.args.context.types.now c.args.context.scope in
    let first = init_seen c.args.first ∷ [] in
    let items = c.in_ok-push.ensures.items ∙ ap (λ v. v ++ c.args.first ∷ []) c.new-all.ensures.items in
    let same : map init_seen c.push.new.self.items ≡ first = ap (λ v. map init_seen v) items in
    record {
      step = subst (λ v. IsStep g (grammar.inits first) (grammar.inits v) (λ a. a) c.args.tokens.now c.args.tokens.now) (sym same) (begun (grammar.at g (grammar.inits first)) (c_tokens c.args.tokens.now));
      deep = subst (λ v. c.args.inner ≡ inits_depth (inits v)) (sym same) (omega (arith, c.requires.deep));
      shallow = c.requires.shallow;
      ended = c.requires.ended;
      fewer = omega arith;
    }

pub read_inits-returns-then-not-begins_init : goal.read_inits-returns-then-not-begins_init
read_inits-returns-then-not-begins_init t c =
    let g = there c.args.context.types.now c.args.context.scope in
    let i = c.inits.invariant in
    let is = map init_seen c.inits.all.items in
    let comma = c.next_token.result.0 in
    let more = c.next_token.result.1.now in
    let x = c.next_token-in-inits.result.0 in
    let stands = sym (c.is_mark.ensures ∙ ap (λ s. is_mark sorts_there.comma s) c.sort_at.ensures) ∙ c.if-not-is_mark.false in
    let other = sym (c.begins_init.ensures ∙ ap (λ s. is_mark sorts_there.brace s || begins_expression s) c.sort_at-in-inits.ensures) ∙ c.if-not-begins_init.true in
    let step = inits_comma g (init_seen c.args.first ∷ []) is c.args.tokens.now c.inits.rest.now more comma i.step c.next_token.ensures stands in
    let shorter : length c.inits.rest.now ≡ length (comma ∷ more) = ap length c.next_token.ensures in
    inits_last g (init_seen c.args.first ∷ []) is c.args.tokens.now more c.next_token-in-inits.result.1.now x step c.next_token-in-inits.ensures c.args.depth c.inits.reached other i.deep i.shallow (ended_comma g.types comma more stands (subst IsEnded c.next_token.ensures i.ended)) (omega (arith, i.fewer, shorter))

pub read_inits-returns-in_err-next : goal.read_inits-returns-in_err-next
read_inits-returns-in_err-next t c =
    let p = err_from_is_err_and c.from_residual-in_err-next.result c.from_residual-in_err-next.ensures.1 in
    let g = there c.args.context.types.now c.args.context.scope in
    let i = c.inits.invariant in
    let is = map init_seen c.inits.all.items in
    let comma = c.next_token.result.0 in
    let more = c.next_token.result.1.now in
    let x = c.next_token-in-inits.result.0 in
    let stands = sym (c.is_mark.ensures ∙ ap (λ s. is_mark sorts_there.comma s) c.sort_at.ensures) ∙ c.if-not-is_mark.false in
    let begins = sym (c.begins_init.ensures ∙ ap (λ s. is_mark sorts_there.brace s || begins_expression s) c.sort_at-in-inits.ensures) ∙ c.if-not-begins_init.false in
    let step = inits_comma g (init_seen c.args.first ∷ []) is c.args.tokens.now c.inits.rest.now more comma i.step c.next_token.ensures stands in
    let on = inits_on g (init_seen c.args.first ∷ []) is c.args.tokens.now more c.next_token-in-inits.result.1.now x step c.next_token-in-inits.ensures begins in
    rw (p.1, p.2) (stop_part g g g (grammar.inits (init_seen c.args.first ∷ [])) (grammar.behind_init_comma is) grammar.init (λ a. a) (inits_more g is) c.args.depth c.args.depth c.args.tokens.now more on (omega arith) c.in_err-next.field-0.0 c.in_err-next.ensures)

pub read_inits-inits-preserved : goal.read_inits-inits-preserved
read_inits-inits-preserved t c =
    let g = there c.args.context.types.now c.args.context.scope in
    let i = c.inits.invariant in
    let h = c.in_ok-next.ensures in
    let is = map init_seen c.inits.all.items in
    let v = init_seen c.in_ok-next.next.tree in
    let comma = c.next_token.result.0 in
    let more = c.next_token.result.1.now in
    let x = c.next_token-in-inits.result.0 in
    let stands = sym (c.is_mark.ensures ∙ ap (λ s. is_mark sorts_there.comma s) c.sort_at.ensures) ∙ c.if-not-is_mark.false in
    let begins = sym (c.begins_init.ensures ∙ ap (λ s. is_mark sorts_there.brace s || begins_expression s) c.sort_at-in-inits.ensures) ∙ c.if-not-begins_init.false in
    let step = inits_comma g (init_seen c.args.first ∷ []) is c.args.tokens.now c.inits.rest.now more comma i.step c.next_token.ensures stands in
    let on = inits_on g (init_seen c.args.first ∷ []) is c.args.tokens.now more c.next_token-in-inits.result.1.now x step c.next_token-in-inits.ensures begins in
    let same : map init_seen c.push-in-inits.new.self.items ≡ is ++ v ∷ [] = ap (λ w. map init_seen w) c.in_ok-push-2.ensures.items ∙ map_more (λ w. init_seen w) c.inits.all.items c.in_ok-next.next.tree in
    let shorter : length c.inits.rest.now ≡ length (comma ∷ more) = ap length c.next_token.ensures in
    record {
      step = subst (λ w. IsStep g (grammar.inits (init_seen c.args.first ∷ [])) (grammar.inits w) (λ a. a) c.args.tokens.now c.in_ok-next.next.rest.now) (sym same) (last (got on h.read.reads));
      deep = subst (λ w. c.max-reached.result ≡ inits_depth (inits w)) (sym same) (omega (arith, c.max-reached.ensures, i.deep, h.read.deep, inits_snoc is v));
      shallow = omega (arith, c.max-reached.ensures, i.shallow, h.read.shallow);
      ended = h.read.ended;
      fewer = omega (arith, h.fewer, i.fewer, shorter);
    }

pub read_inits-returns : goal.read_inits-returns
read_inits-returns t c =
    let g = there c.args.context.types.now c.args.context.scope in
    let i = c.inits.invariant in
    let other = sym (c.is_mark.ensures ∙ ap (λ s. is_mark sorts_there.comma s) c.sort_at.ensures) ∙ c.if-not-is_mark.true in
    inits_end g (init_seen c.args.first ∷ []) (map init_seen c.inits.all.items) c.args.tokens.now c.inits.rest.now c.next_token.result.1.now c.next_token.result.0 i.step c.next_token.ensures c.args.depth c.inits.reached other i.deep i.shallow i.ended i.fewer
