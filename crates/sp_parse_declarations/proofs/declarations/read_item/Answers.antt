use Rattle.std.proofs.Common.{arith}
use Rattle.std.specs.Prelude.{option_map}
use Rattle.std.proofs.lemmas.Result.{err_from_is_err_and}
use Rattle.sp_parse_grammar.specs.CTable as grammar
use Rattle.sp_parse_grammar.specs.CTable.{begins_items, begins_specifiers}
use Rattle.sp_parse_grammar.specs.Table.{done}
use Rattle.sp_parse_tokens.specs.Scopes.{there}
use Rattle.sp_parse_expr_steps.proofs.Steps.{got}
use Rattle.sp_parse_expr_steps.proofs.Parts.{stop_part}
use Rattle.sp_parse_declarations.proofs.DeclarationSteps as steps
use Rattle.sp_parse_trees.specs.View.{declarator_of}
use Rattle.sp_parse_expr_steps.specs.Declaring.{declared_seen}
use Rattle.sp_parse_declarations.specs.Seen.{init_seen, item_part}
use Rattle.sp_parse_declarations.proofs.declarations.read_item.Goals as goal

pub returns-in_err-declared : goal.returns-in_err-declared
returns-in_err-declared c =
    let p = err_from_is_err_and c.from_residual.result c.from_residual.ensures.1 in
    let g = there c.args.context.types.now c.args.context.scope in
    rw (p.1, p.2) (stop_part g g g grammar.item grammar.item (grammar.declarator grammar.concrete) (λ a. a) (steps.item_more g) c.args.depth c.args.depth c.args.tokens.now c.args.tokens.now (steps.item_on g c.args.tokens.now c.requires) (omega arith) c.in_err-declared.field-0.0 c.in_err-declared.ensures)

pub returns-in_err-start : goal.returns-in_err-start
returns-in_err-start c =
    let p = err_from_is_err_and c.from_residual-in_err-start.result c.from_residual-in_err-start.ensures.1 in
    let g = there c.args.context.types.now c.args.context.scope in
    let declared = c.in_ok-declared.declared in
    let on = got (steps.item_on g c.args.tokens.now c.requires) c.in_ok-declared.ensures.reads in
    rw (p.1, p.2) (stop_part g g g grammar.item grammar.item grammar.initial (λ a. a) (λ v. done (grammar.one_item (declared_seen declared.tree (declarator_of declared.tree.tree)) v)) c.args.depth c.args.depth c.args.tokens.now declared.rest.now on (omega arith) c.in_err-start.field-0.0 c.in_err-start.ensures)

pub returns : goal.returns
returns c =
    let g = there c.args.context.types.now c.args.context.scope in
    let declared = c.in_ok-declared.declared in
    let start = c.in_ok-start.start in
    steps.item_read g c.args.depth declared.depth start.depth c.max.result c.args.tokens.now declared.rest.now start.rest.now (declared_seen declared.tree (declarator_of declared.tree.tree)) (option_map init_seen start.tree) (item_part c.first_item.result) c.requires c.in_ok-declared.ensures c.in_ok-start.ensures c.first_item.ensures c.max.ensures
