use Rattle.std.proofs.Common.{map, refl, sym, ap, ◌∙◌, arith}
use Rattle.std.proofs.lemmas.Result.{err_from_is_err_and}
use Rattle.sp_parse_grammar.specs.CTable as grammar
use Rattle.sp_parse_grammar.specs.CTable.{begins_items, begins_specifiers}
use Rattle.sp_parse_grammar.specs.Table.{done}
use Rattle.sp_parse_tokens.specs.Scopes.{there}
use Rattle.sp_parse_expr_steps.specs.Reading.{IsStep}
use Rattle.sp_parse_expr_steps.proofs.Steps.{got, last}
use Rattle.sp_parse_expr_steps.proofs.Parts.{stop_part}
use Rattle.sp_parse_declarations.proofs.DeclarationSteps as steps
use Rattle.sp_parse_declarations.specs.Seen.{item_part, items_part}
use Rattle.sp_parse_expr_steps.specs.Declaring.{item_seen}
use Rattle.sp_parse_expr_steps.proofs.Faulting.{result_before}
use Rattle.sp_parse_declarations.proofs.declarations.read_items.Goals as goal

pub returns-then-not-begins_items : goal.returns-then-not-begins_items
returns-then-not-begins_items c =
    let g = there c.args.context.types.now c.args.context.scope in
    let x = c.next_token.result.0 in
    let xs = c.next_token.result.1.now in
    let other = sym (c.begins_items.ensures ∙ ap (λ s. begins_items s) c.sort_at.ensures) ∙ c.if-not-begins_items.true in
    steps.items_none g c.args.tokens.now xs x c.next_token.ensures c.args.depth _ other c.requires (steps.several_same (ap (λ v. map item_seen v) c.new.ensures.items) c.new-then-not-begins_items.ensures.items refl)

pub returns-in_err-first : goal.returns-in_err-first
returns-in_err-first c =
    let p = err_from_is_err_and c.from_residual.result c.from_residual.ensures.1 in
    let g = there c.args.context.types.now c.args.context.scope in
    let x = c.next_token.result.0 in
    let xs = c.next_token.result.1.now in
    let stands = sym (c.begins_items.ensures ∙ ap (λ s. begins_items s) c.sort_at.ensures) ∙ c.if-not-begins_items.false in
    rw (p.1, p.2) (stop_part g g g grammar.items grammar.items grammar.item (λ a. a) (λ i. grammar.get g (grammar.more_items i) (λ is. done is)) c.args.depth c.args.depth c.args.tokens.now c.args.tokens.now (steps.items_begun g c.args.tokens.now xs x c.next_token.ensures stands) (omega arith) c.in_err-first.field-0.0 c.in_err-first.ensures)

pub returns : goal.returns
returns c =
    let g = there c.args.context.types.now c.args.context.scope in
    let x = c.next_token.result.0 in
    let xs = c.next_token.result.1.now in
    let first = c.in_ok-first.first in
    let h = c.in_ok-first.ensures in
    let stands = sym (c.begins_items.ensures ∙ ap (λ s. begins_items s) c.sort_at.ensures) ∙ c.if-not-begins_items.false in
    let step : IsStep g grammar.items (grammar.more_items (item_part first.tree)) (λ a. a) c.args.tokens.now first.rest.now = last (got (steps.items_begun g c.args.tokens.now xs x c.next_token.ensures stands) h.reads) in
    result_before g grammar.items (grammar.more_items (item_part first.tree)) (λ v. v) items_part c.args.depth c.args.tokens.now first.rest.now step (λ a. refl) (omega (arith, h.fewer)) c.read_more_items.result c.read_more_items.ensures
