use Rattle.std.proofs.Common.{◌≡◌, ◌∷◌, length, Some, sym, ap, ◌∙◌, arith}
use Rattle.std.proofs.lemmas.Result.{err_from_is_err_and}
use Rattle.sp_parse_grammar.specs.CTokens.{is_mark, view}
use Rattle.sp_parse_grammar.specs.CTokens as sorts_there
use Rattle.sp_parse_grammar.specs.CTable as grammar
use Rattle.sp_parse_grammar.specs.CTable.{begins_items, begins_specifiers}
use Rattle.sp_parse_grammar.specs.Table.{done}
use Rattle.sp_parse_tokens.specs.Sorts.{sort_of}
use Rattle.sp_parse_tokens.specs.Scopes.{there}
use Rattle.sp_parse_expr_steps.proofs.Steps.{got, finished}
use Rattle.sp_parse_expr_steps.proofs.Parts.{stop_part}
use Rattle.sp_parse_declarations.proofs.DeclarationSteps as steps
use Rattle.sp_parse_declarations.proofs.declarations.read_initial.Goals as goal

pub returns-then-not-is_mark : goal.returns-then-not-is_mark
returns-then-not-is_mark c =
    let g = there c.args.context.types.now c.args.context.scope in
    let x = c.next_token.result.0 in
    let xs = c.next_token.result.1.now in
    let other = sym (c.is_mark.ensures ∙ ap (λ s. is_mark sorts_there.equal s) c.sort_at.ensures) ∙ c.if-not-is_mark.true in
    steps.initial_none g c.args.tokens.now xs x c.next_token.ensures c.args.depth other c.requires

pub returns-then-depth-lt2 : goal.returns-then-depth-lt2
returns-then-depth-lt2 c =
    let g = there c.args.context.types.now c.args.context.scope in
    let x = c.next_token.result.0 in
    let xs = c.next_token.result.1.now in
    let is = steps.equal_is (view g.types (sort_of x.kind)) (sym (c.is_mark.ensures ∙ ap (λ s. is_mark sorts_there.equal s) c.sort_at.ensures) ∙ c.if-not-is_mark.false) in
    (steps.initial_deep g c.args.tokens.now xs x c.next_token.ensures c.args.depth (sym is) (omega (arith, c.if-depth-lt2.true)), c.requires)

pub returns-in_err-start : goal.returns-in_err-start
returns-in_err-start c =
    let p = err_from_is_err_and c.from_residual.result c.from_residual.ensures.1 in
    let g = there c.args.context.types.now c.args.context.scope in
    let x = c.next_token.result.0 in
    let xs = c.next_token.result.1.now in
    let stands = sym (c.is_mark.ensures ∙ ap (λ s. is_mark sorts_there.equal s) c.sort_at.ensures) ∙ c.if-not-is_mark.false in
    rw (p.1, p.2) (stop_part g g g grammar.initial grammar.initial grammar.init (λ a. a) (λ i. done (Some i)) c.args.depth c.args.depth c.args.tokens.now xs (steps.initial_on g c.args.tokens.now xs x c.next_token.ensures stands) (omega arith) c.in_err-start.field-0.0 c.in_err-start.ensures)

pub returns : goal.returns
returns c =
    let g = there c.args.context.types.now c.args.context.scope in
    let x = c.next_token.result.0 in
    let xs = c.next_token.result.1.now in
    let start = c.in_ok-start.start in
    let h = c.in_ok-start.ensures in
    let stands = sym (c.is_mark.ensures ∙ ap (λ s. is_mark sorts_there.equal s) c.sort_at.ensures) ∙ c.if-not-is_mark.false in
    let shorter : length c.args.tokens.now ≡ length (x ∷ xs) = ap length c.next_token.ensures in
    record {
      reads = finished (got (steps.initial_on g c.args.tokens.now xs x c.next_token.ensures stands) h.read.reads);
      deep = h.read.deep;
      shallow = h.read.shallow;
      ended = h.read.ended;
      fewer = omega (arith, h.fewer, shorter);
    }
