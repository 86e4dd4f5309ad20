use Rattle.std.proofs.Common.{true, refl, sym, ap, arith}
use Rattle.std.proofs.lemmas.Result.{err_from_is_err_and}
use Rattle.sp_parse_grammar.specs.CTokens.{is_mark, view}
use Rattle.sp_parse_grammar.specs.CTokens as sorts_there
use Rattle.sp_parse_grammar.specs.CTable as grammar
use Rattle.sp_parse_grammar.specs.CTable.{begins_items, begins_specifiers}
use Rattle.sp_parse_tokens.specs.Scopes.{there}
use Rattle.sp_parse_expr_steps.proofs.Steps.{got}
use Rattle.sp_parse_expr_steps.proofs.Parts.{stop_part, stop_mark}
use Rattle.sp_parse_declarations.proofs.DeclarationSteps as steps
use Rattle.sp_parse_trees.specs.View.{declaration_of}
use Rattle.sp_parse_tokens.specs.Makers.{first_place}
use Rattle.sp_parse_declarations.specs.Seen.{items_part}
use Rattle.sp_parse_declarations.proofs.declarations.read_declaration.Goals as goal

pub returns-in_err-specifiers : goal.returns-in_err-specifiers
returns-in_err-specifiers c =
    let p = err_from_is_err_and c.from_residual.result c.from_residual.ensures.1 in
    let g = there c.args.context.types.now c.args.context.scope in
    rw (p.1, p.2) (stop_part g g g grammar.declaration grammar.declaration (grammar.specifiers true sorts_there.nothing_seen grammar.no_specifiers) (λ a. a) (steps.declaration_more g) c.args.depth c.args.depth c.args.tokens.now c.args.tokens.now (steps.declaration_on g c.args.tokens.now c.requires) (omega arith) c.in_err-specifiers.field-0.0 c.in_err-specifiers.ensures)

pub returns-in_err-items : goal.returns-in_err-items
returns-in_err-items c =
    let p = err_from_is_err_and c.from_residual-in_err-items.result c.from_residual-in_err-items.ensures.1 in
    let g = there c.args.context.types.now c.args.context.scope in
    let h = c.in_ok-specifiers.ensures in
    let on = got (steps.declaration_on g c.args.tokens.now c.requires) h.read.reads in
    rw (p.1, p.2) (stop_part g g g grammar.declaration grammar.declaration grammar.items (λ a. a) (steps.declaration_close g h.all) c.args.depth c.args.depth c.args.tokens.now c.in_ok-specifiers.specifiers.rest.now on (omega arith) c.in_err-items.field-0.0 c.in_err-items.ensures)

pub returns-in_err-rest : goal.returns-in_err-rest
returns-in_err-rest c =
    let p = err_from_is_err_and c.from_residual-in_err-rest.result c.from_residual-in_err-rest.ensures.1 in
    let types = c.args.context.types.now in
    let g = there types c.args.context.scope in
    let h = c.in_ok-specifiers.ensures in
    let w = c.in_ok-items.ensures in
    let items = c.in_ok-items.items in
    let on = got (got (steps.declaration_on g c.args.tokens.now c.requires) h.read.reads) w.reads in
    rw (p.1, p.2) (stop_mark types c.args.context.scope g grammar.declaration grammar.declaration (λ a. a) sorts_there.semicolon items.tree.behind (steps.declaration_done g h.all (items_part items.tree).all) g c.args.depth c.args.tokens.now items.rest.now on w.ended c.in_err-rest.field-0.0 c.in_err-rest.ensures)

pub returns : goal.returns
returns c =
    let types = c.args.context.types.now in
    let g = there types c.args.context.scope in
    let ss = c.in_ok-specifiers.specifiers in
    let items = c.in_ok-items.items in
    let h = c.in_ok-specifiers.ensures in
    let is = items_part items.tree in
    let place = c.next_token.result.0.place in
    let same = steps.declaration_made g true c.args.depth ss.depth c.args.tokens.now ss.rest.now ss.tree is.all place (declaration_of c.declared.result) h (ap (λ v. first_place v) (sym c.next_token.ensures)) c.declared.ensures in
    steps.declaration_read types c.args.context.scope c.args.depth ss.depth items.depth c.max.result c.args.tokens.now ss.rest.now items.rest.now c.in_ok-rest.rest.now ss.tree is items.tree.behind (declaration_of c.declared.result) c.requires h c.in_ok-items.ensures refl c.in_ok-rest.ensures c.max.ensures same
