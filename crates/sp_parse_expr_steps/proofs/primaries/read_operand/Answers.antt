use Rattle.std.proofs.Common.{refl, sym, ap, ◌∙◌, arith}
use Rattle.sp_parse_grammar.specs.CTokens as sorts_there
use Rattle.sp_parse_grammar.specs.CTokens.{is_mark, view}
use Rattle.sp_parse_grammar.specs.CTable as grammar
use Rattle.sp_parse_tokens.specs.Sorts.{terminal, sort_of, c_tokens}
use Rattle.sp_parse_tokens.specs.Scopes.{there}
use Rattle.sp_parse_tokens.specs.declared.scope.AlsoAllowed.TheVariants as also
use Rattle.sp_parse_expr_steps.specs.Reading.{first_sort, is_operand}
use Rattle.sp_parse_expr_steps.proofs.Steps.{begun}
use Rattle.sp_parse_expr_steps.proofs.ExpressionSteps.{first_deep}
use Rattle.sp_parse_expr_steps.proofs.Faulting.{stop_unread, primary_none, operand_begins, leaf_result}
use Rattle.sp_parse_expr_steps.proofs.primaries.read_operand.Goals as goal

pub returns-then-not-is_operand : goal.returns-then-not-is_operand
returns-then-not-is_operand c =
    let types = c.args.context.types.now in
    let g = there types c.args.context.scope in
    let x = c.next_token.result.0 in
    let s = view types (sort_of x.kind) in
    let other = sym (c.is_operand.ensures ∙ ap (λ v. is_operand v) c.sort_at.ensures) ∙ c.if-not-is_operand.true in
    let closed = sym (ap (λ v. is_mark sorts_there.opening (first_sort types v)) c.next_token.ensures) ∙ c.requires.no_group in
    stop_unread types c.args.context.scope also.Name grammar.primary grammar.primary (λ a. a) c.args.depth c.args.tokens.now c.args.tokens.now c.next_token.result.1.now x (begun (grammar.at g grammar.primary) (c_tokens c.args.tokens.now)) c.next_token.ensures (primary_none g (terminal x) s other closed) (λ y. refl) c.requires.ended c.fault.result c.fault.ensures

pub returns-then-depth-lt1 : goal.returns-then-depth-lt1
returns-then-depth-lt1 c =
    let g = there c.args.context.types.now c.args.context.scope in
    let x = c.next_token.result.0 in
    let s = view g.types (sort_of x.kind) in
    let stands = sym (c.is_operand.ensures ∙ ap (λ v. is_operand v) c.sort_at.ensures) ∙ c.if-not-is_operand.false in
    let b = operand_begins g (terminal x) s stands in
    (first_deep g grammar.primary c.args.tokens.now c.next_token.result.1.now x s c.next_token.ensures refl c.args.depth b.body b.chosen (omega (arith, b.deep, c.if-depth-lt1.true)), c.requires.ended)

pub returns : goal.returns
returns c =
    leaf_result (there c.args.context.types.now c.args.context.scope) c.args.depth c.args.tokens.now c.next_token.result.1.now c.next_token.result.0 c.next_token.ensures (omega (arith, c.if-depth-lt1.false)) c.read_leaf.result c.read_leaf.ensures
