use Rattle.std.proofs.Common.{sym, ap, ◌∙◌, map}
use Rattle.std.proofs.lemmas.Result.{err_from_is_err_and}
use Rattle.sp_parse_trees.specs.Syntax as syntax
use Rattle.sp_parse_trees.specs.View.{declarator_of, specifiers_of, init_declarators}
use Rattle.sp_parse_expr_steps.specs.Declaring.{declared_seen, item_seen}
use Rattle.sp_decl_parser.proofs.ExternalSteps as steps
use Rattle.sp_decl_parser.proofs.externals.read_external_items.Goals as goal

pub returns-then-ends_at_once : goal.returns-then-ends_at_once
returns-then-ends_at_once c all same first =
    let stands = sym c.ends_at_once.ensures ∙ c.if-ends_at_once.true in
    let written = specifiers_of c.args.head.specifiers.all.items in
    let is = steps.declares_same (c.declaration.ensures ∙ ap (λ v. syntax.external_declaration (syntax.declaration written (init_declarators (map item_seen v)) c.args.head.place)) c.new-items.ensures.items) c.new.ensures.items in
    steps.alone_read c.args.context.types.now c.args.context.scope c.args.tokens.now c.next_token.result.1.now c.next_token.result.0 c.next_token.ensures all c.args.head.specifiers.typedefs c.args.depth c.args.head.depth written c.args.head.place _ stands c.requires.ended same first is c.requires.head_deep c.requires.head_shallow

pub returns-in_err-declared : goal.returns-in_err-declared
returns-in_err-declared c all same first =
    let p = err_from_is_err_and c.from_residual.result c.from_residual.ensures.1 in
    let other = sym c.ends_at_once.ensures ∙ c.if-ends_at_once.false in
    rw (p.1, p.2) (steps.items_stop c.args.context.types.now c.args.context.scope c.args.tokens.now c.requires.ended all c.args.head.specifiers.typedefs other c.args.depth c.in_err-declared.field-0.0 c.in_err-declared.ensures)

pub returns-then-begins_body : goal.returns-then-begins_body
returns-then-begins_body c all same first =
    let d = c.in_ok-declared.declared in
    let other = sym c.ends_at_once.ensures ∙ c.if-ends_at_once.false in
    steps.items_whole c.args.context.types.now c.args.context.scope c.args.tokens.now c.requires.ended all c.args.head.specifiers.typedefs other c.args.depth d.depth d.rest.now (declared_seen d.tree (declarator_of d.tree.tree)) c.in_ok-declared.ensures c.read_definition.result (c.read_definition.ensures all same first)

pub returns-else-begins_body : goal.returns-else-begins_body
returns-else-begins_body c all same first =
    let d = c.in_ok-declared.declared in
    let other = sym c.ends_at_once.ensures ∙ c.if-ends_at_once.false in
    steps.items_whole c.args.context.types.now c.args.context.scope c.args.tokens.now c.requires.ended all c.args.head.specifiers.typedefs other c.args.depth d.depth d.rest.now (declared_seen d.tree (declarator_of d.tree.tree)) c.in_ok-declared.ensures c.read_rest_of_declaration.result (c.read_rest_of_declaration.ensures all same first)
