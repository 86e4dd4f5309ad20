use Rattle.std.proofs.Common.{sym, ap, ◌∙◌, arith}
use Rattle.sp_parse_grammar.specs.CTable.{begins_items}
use Rattle.sp_parse_tokens.specs.Scopes.{there}
use Rattle.sp_parse_declarations.proofs.DeclarationSteps as steps
use Rattle.sp_parse_declarations.proofs.DeclarationSteps.{named_result}
use Rattle.sp_parse_declarations.proofs.declarations.read_named.Goals as goal

pub returns-then-depth-gt0 : goal.returns-then-depth-gt0
returns-then-depth-gt0 c =
    let g = there c.args.context.types.now c.args.context.scope in
    named_result g c.args.depth c.args.tokens.now c.read_declarator.result c.read_declarator.ensures

pub returns-then-begins_items : goal.returns-then-begins_items
returns-then-begins_items c =
    let g = there c.args.context.types.now c.args.context.scope in
    let x = c.next_token.result.0 in
    let xs = c.next_token.result.1.now in
    let begins = sym (c.begins_items.ensures ∙ ap (λ s. begins_items s) c.sort_at.ensures) ∙ c.if-begins_items.true in
    (steps.declarator_deep g c.args.tokens.now xs x c.args.depth c.next_token.ensures (omega (arith, c.if-depth-gt0.false)) begins, c.requires)

pub returns-else-begins_items : goal.returns-else-begins_items
returns-else-begins_items c =
    let x = c.next_token.result.0 in
    let xs = c.next_token.result.1.now in
    let other = sym (c.begins_items.ensures ∙ ap (λ s. begins_items s) c.sort_at.ensures) ∙ c.if-begins_items.false in
    steps.declarator_none c.args.context.types.now c.args.context.scope c.args.depth c.args.tokens.now xs x c.next_token.ensures c.requires other c.fault.result c.fault.ensures
