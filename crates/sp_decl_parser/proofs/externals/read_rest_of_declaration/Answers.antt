use Rattle.std.proofs.Common.{refl, ap, ◌∙◌, arith}
use Rattle.std.specs.Prelude.{max, option_map}
use Rattle.std.proofs.lemmas.Result.{err_from_is_err_and}
use Rattle.sp_parse_trees.specs.View.{declarator_of, specifiers_of}
use Rattle.sp_parse_declarations.specs.Seen.{init_seen, item_part, items_part}
use Rattle.sp_parse_expr_steps.specs.Declaring.{declared_seen}
use Rattle.sp_decl_parser.specs.Seen.{specified}
use Rattle.sp_decl_parser.proofs.ExternalSteps as steps
use Rattle.sp_decl_parser.proofs.externals.read_rest_of_declaration.Goals as goal

pub returns-in_err-start : goal.returns-in_err-start
returns-in_err-start c all same first =
    let p = err_from_is_err_and c.from_residual.result c.from_residual.ensures.1 in
    rw (p.1, p.2) (steps.initial_stop c.args.context.types.now c.args.context.scope c.args.depth c.args.tokens.now c.requires.ended (specified all c.args.head.specifiers.typedefs) (declared_seen c.args.declared (declarator_of c.args.declared.tree)) c.requires.no_body c.in_err-start.field-0.0 c.in_err-start.ensures)

pub returns-in_err-items : goal.returns-in_err-items
returns-in_err-items c all same first =
    let p = err_from_is_err_and c.from_residual-in_err-items.result c.from_residual-in_err-items.ensures.1 in
    rw (p.1, p.2) (steps.items_inner c.args.context.types.now c.args.context.scope c.args.depth c.args.tokens.now c.requires.ended (specified all c.args.head.specifiers.typedefs) (declared_seen c.args.declared (declarator_of c.args.declared.tree)) c.requires.no_body c.in_ok-start.start.depth (option_map init_seen c.in_ok-start.start.tree) c.in_ok-start.start.rest.now c.in_ok-start.ensures (item_part c.first_item-first.result) c.first_item-first.ensures c.in_err-items.field-0.0 c.in_err-items.ensures)

pub returns-in_err-rest : goal.returns-in_err-rest
returns-in_err-rest c all same first =
    let p = err_from_is_err_and c.from_residual-in_err-rest.result c.from_residual-in_err-rest.ensures.1 in
    rw (p.1, p.2) (steps.items_unclosed c.args.context.types.now c.args.context.scope c.args.depth c.args.tokens.now c.requires.ended (specified all c.args.head.specifiers.typedefs) (declared_seen c.args.declared (declarator_of c.args.declared.tree)) c.requires.no_body c.in_ok-start.start.depth (option_map init_seen c.in_ok-start.start.tree) c.in_ok-start.start.rest.now c.in_ok-start.ensures (item_part c.first_item-first.result) c.first_item-first.ensures c.in_ok-items.items.depth (items_part c.in_ok-items.items.tree) c.in_ok-items.items.rest.now c.in_ok-items.ensures c.in_ok-items.items.tree.behind refl c.in_err-rest.field-0.0 c.in_err-rest.ensures)

pub returns : goal.returns
returns c all same first =
    let items = c.in_ok-items.items in
    let written = specifiers_of c.args.head.specifiers.all.items in
    let made = steps.declares_same c.declaration.ensures c.names_made.ensures in
    let deepest = c.max-reached.ensures ∙ ap (λ k. max k items.depth) c.requires.head_deep in
    let h = c.in_ok-items.ensures in
    steps.declaration_whole c.args.context.types.now c.args.context.scope c.args.depth c.args.tokens.now c.requires.ended (specified all c.args.head.specifiers.typedefs) (declared_seen c.args.declared (declarator_of c.args.declared.tree)) c.requires.no_body c.in_ok-start.start.depth (option_map init_seen c.in_ok-start.start.tree) c.in_ok-start.start.rest.now c.in_ok-start.ensures (item_part c.first_item-first.result) c.first_item-first.ensures c.in_ok-items.items.depth (items_part c.in_ok-items.items.tree) c.in_ok-items.items.rest.now c.in_ok-items.ensures c.in_ok-items.items.tree.behind refl c.max-reached.result c.in_ok-rest.rest.now written c.args.head.place _ c.in_ok-rest.ensures same first made deepest (omega (arith, c.max-reached.ensures, c.requires.head_shallow, h.shallow))
