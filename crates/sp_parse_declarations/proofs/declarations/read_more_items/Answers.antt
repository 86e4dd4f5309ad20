use Rattle.std.proofs.Common.{◌≡◌, ◌∷◌, ◌++◌, [], map, length, refl, sym, ap, ◌∙◌, subst, arith}
use Rattle.std.proofs.lemmas.Result.{err_from_is_err_and}
use Rattle.sp_parse_grammar.specs.CTokens.{is_mark, view}
use Rattle.sp_parse_grammar.specs.CTokens as sorts_there
use Rattle.sp_parse_grammar.specs.CTable as grammar
use Rattle.sp_parse_grammar.specs.CTable.{begins_items, begins_specifiers}
use Rattle.sp_parse_tokens.specs.Sorts.{c_tokens}
use Rattle.sp_parse_tokens.specs.Scopes.{there, allowed_seen}
use Rattle.sp_parse_expr_steps.specs.Reading.{IsStep}
use Rattle.sp_parse_expr_steps.proofs.Steps.{begun}
use Rattle.sp_parse_expr_steps.proofs.Parts.{stop_part}
use Rattle.sp_parse_declarations.proofs.DeclarationSteps as steps
use Rattle.sp_parse_trees.specs.Depth.{items_depth}
use Rattle.sp_parse_tokens.specs.Makers.{all_items}
use Rattle.sp_parse_tokens.proofs.Settled.{items_both}
use Rattle.sp_parse_expr_steps.specs.Declaring.{item_seen}
use Rattle.sp_parse_expr_steps.proofs.ListSteps.{map_more}
use Rattle.sp_parse_declarations.specs.Seen.{item_part}
use Rattle.sp_parse_declarations.proofs.DeclarationSteps.{several, several_same}
use Rattle.sp_parse_declarations.proofs.declarations.read_more_items.Goals as goal

pub items-init : goal.items-init
items-init c =
    let g = there c.args.context.types.now c.args.context.scope in
    let first = item_part c.args.first in
    let all : map item_seen c.push.new.self.items ≡ first.all = ap (λ v. map item_seen v) (c.in_ok-push.ensures.items ∙ ap (λ v. v ++ c.args.first.tree ∷ []) c.in_ok-all.ensures.items) in
    let names : c.add_name.new.names.items ≡ first.names = c.in_ok-add_name.ensures.ok ∙ ap (λ v. v ++ grammar.with_name c.args.first.declares []) c.new-names.ensures.items in
    let same : several (map item_seen c.push.new.self.items) c.add_name.new.names.items (allowed_seen c.args.first.behind) ≡ first = several_same all names refl in
    record {
      step = subst (λ v. IsStep g (grammar.more_items first) (grammar.more_items v) (λ a. a) c.args.tokens.now c.args.tokens.now) (sym same) (begun (grammar.at g (grammar.more_items first)) (c_tokens c.args.tokens.now));
      deep = subst (λ v. c.args.inner ≡ items_depth (all_items v)) (sym all) c.requires.deep;
      shallow = c.requires.shallow;
      ended = c.requires.ended;
      fewer = omega arith;
    }

pub returns-in_err-next : goal.returns-in_err-next
returns-in_err-next c =
    let p = err_from_is_err_and c.from_residual-in_err-next.result c.from_residual-in_err-next.ensures.1 in
    let g = there c.args.context.types.now c.args.context.scope in
    let i = c.items.invariant in
    let x = c.next_token.result.0 in
    let xs = c.next_token.result.1.now in
    let is = several (map item_seen c.items.all.items) c.items.names.items (allowed_seen c.items.behind) in
    let stands = sym (c.is_mark.ensures ∙ ap (λ s. is_mark sorts_there.comma s) c.sort_at.ensures) ∙ c.if-not-is_mark.false in
    rw (p.1, p.2) (stop_part g g g (grammar.more_items (item_part c.args.first)) (grammar.more_items is) grammar.item (λ a. a) (steps.items_more g is) c.args.depth c.args.depth c.args.tokens.now xs (steps.items_on g (item_part c.args.first) is c.args.tokens.now c.items.rest.now xs x i.step c.next_token.ensures stands) (omega arith) c.in_err-next.field-0.0 c.in_err-next.ensures)

pub items-preserved : goal.items-preserved
items-preserved c =
    let g = there c.args.context.types.now c.args.context.scope in
    let i = c.items.invariant in
    let x = c.next_token.result.0 in
    let xs = c.next_token.result.1.now in
    let is = several (map item_seen c.items.all.items) c.items.names.items (allowed_seen c.items.behind) in
    let next = c.in_ok-next.next in
    let h = c.in_ok-next.ensures in
    let stands = sym (c.is_mark.ensures ∙ ap (λ s. is_mark sorts_there.comma s) c.sort_at.ensures) ∙ c.if-not-is_mark.false in
    let all : map item_seen c.push-in-items.new.self.items ≡ is.all ++ item_seen next.tree.tree ∷ [] = ap (λ v. map item_seen v) c.in_ok-push-2.ensures.items ∙ map_more (λ v. item_seen v) c.items.all.items next.tree.tree in
    let names : c.add_name-in-items.new.names.items ≡ is.names ++ grammar.with_name next.tree.declares [] = c.in_ok-add_name-2.ensures.ok in
    let same = several_same all names refl in
    let shorter : length c.items.rest.now ≡ length (x ∷ xs) = ap length c.next_token.ensures in
    record {
      step = steps.items_step g (item_part c.args.first) is c.args.tokens.now c.items.rest.now xs x i.step c.next_token.ensures (item_part next.tree) (several (map item_seen c.push-in-items.new.self.items) c.add_name-in-items.new.names.items (allowed_seen next.tree.behind)) next.rest.now stands h.reads same;
      deep = subst (λ v. c.max-reached.result ≡ items_depth (all_items v)) (sym all) (omega (arith, c.max-reached.ensures, i.deep, h.deep, items_both is.all (item_seen next.tree.tree ∷ [])));
      shallow = omega (arith, c.max-reached.ensures, i.shallow, h.shallow);
      ended = h.ended;
      fewer = omega (arith, h.fewer, i.fewer, shorter);
    }

pub returns : goal.returns
returns c =
    let g = there c.args.context.types.now c.args.context.scope in
    let i = c.items.invariant in
    let is = several (map item_seen c.items.all.items) c.items.names.items (allowed_seen c.items.behind) in
    let other = sym (c.is_mark.ensures ∙ ap (λ s. is_mark sorts_there.comma s) c.sort_at.ensures) ∙ c.if-not-is_mark.true in
    rw c.shrink_to_fit.ensures.items (steps.items_end g (item_part c.args.first) is c.args.tokens.now c.items.rest.now c.next_token.result.1.now c.next_token.result.0 i.step c.next_token.ensures c.args.depth c.items.reached other i.deep i.shallow i.ended i.fewer)
