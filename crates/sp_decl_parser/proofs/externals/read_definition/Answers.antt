use Rattle.std.proofs.Common.{ap, ◌∙◌, arith}
use Rattle.std.specs.Prelude.{max}
use Rattle.std.proofs.lemmas.Result.{err_from_is_err_and}
use Rattle.sp_parse_trees.specs.View.{declarator_of, specifiers_of, statement_of}
use Rattle.sp_parse_trees.specs.Depth.{declarator_depth}
use Rattle.sp_parse_tokens.specs.Scopes.{context_of}
use Rattle.sp_parse_expr_steps.specs.Declaring.{declared_seen}
use Rattle.sp_decl_parser.specs.Seen.{specified}
use Rattle.sp_decl_parser.proofs.ExternalSteps as steps
use Rattle.sp_decl_parser.proofs.externals.read_definition.Goals as goal

pub returns-in_err-body : goal.returns-in_err-body
returns-in_err-body c all same first =
    let p = err_from_is_err_and c.from_residual.result c.from_residual.ensures.1 in
    rw (p.1, p.2) (steps.body_stop c.args.context.types.now c.args.context.scope c.args.depth c.args.tokens.now c.next_token.result.1.now c.next_token.result.0 c.next_token.ensures (specified all c.args.head.specifiers.typedefs) (declared_seen c.args.declared (declarator_of c.args.declared.tree)) c.requires.body (context_of c.in_function-within.result) c.in_function-within.ensures c.in_err-body.field-0.0 c.in_err-body.ensures)

pub returns : goal.returns
returns c all same first =
    let body = c.in_ok-body.body in
    let written = specifiers_of c.args.head.specifiers.all.items in
    let made = steps.declares_same c.definition.ensures c.in_ok-types.ensures in
    let deepest = c.max-reached.ensures ∙ (ap (λ k. max c.args.head.depth k) (c.max.ensures ∙ ap (λ k. max k body.depth) c.requires.deep) ∙ ap (λ k. max k (max (declarator_depth (declarator_of c.args.declared.tree)) body.depth)) c.requires.head_deep) in
    let h = c.in_ok-body.ensures in
    steps.body_read c.args.context.types.now c.args.context.scope c.args.depth c.args.tokens.now c.next_token.result.1.now c.next_token.result.0 c.next_token.ensures (specified all c.args.head.specifiers.typedefs) (declared_seen c.args.declared (declarator_of c.args.declared.tree)) c.requires.body (context_of c.in_function-within.result) c.in_function-within.ensures body.depth c.max-reached.result body.rest.now (statement_of body.tree) h written _ same made deepest (omega (arith, c.max-reached.ensures, c.max.ensures, c.requires.head_shallow, c.requires.shallow, h.shallow))
