use Rattle.std.proofs.Common.{sym, ap, ◌∙◌}
use Rattle.sp_parse_grammar.specs.CTokens as sorts_there
use Rattle.sp_parse_grammar.specs.CTokens.{is_mark, view}
use Rattle.sp_parse_tokens.specs.Sorts.{sort_of}
use Rattle.sp_parse_tokens.specs.Scopes.{there}
use Rattle.sp_parse_expr_steps.specs.Reading.{first_sort}
use Rattle.sp_parse_expr_steps.specs.Declaring.{form_seen, head_name}
use Rattle.sp_parse_expr_steps.proofs.GroupSteps.{none_named, named_read, absent_read, concrete_refused}
use Rattle.sp_parse_expr_steps.proofs.declarators.read_head.Goals as goal

pub returns-in-Some : goal.returns-in-Some
returns-in-Some c =
    let g = there c.args.context.types.now c.args.context.scope in
    let f = form_seen c.args.form in
    let x = c.next_token.result.0 in
    let is = sym (c.head_name.ensures ∙ ap (λ s. head_name f s) c.sort_at.ensures) ∙ c.in-Some.is in
    λ depth room. named_read g f c.args.tokens.now c.next_token.result.1.now x c.next_token.ensures depth c.in-Some.name c.named.result is c.named.ensures room c.requires.ended

pub returns-then-is_concrete : goal.returns-then-is_concrete
returns-then-is_concrete c =
    let types = c.args.context.types.now in
    let f = form_seen c.args.form in
    let x = c.next_token.result.0 in
    let other = sym (ap (λ v. is_mark sorts_there.opening (first_sort types v)) c.next_token.ensures) ∙ c.requires.no_group in
    let none = none_named f c.head_name.result (view types (sort_of x.kind)) (c.head_name.ensures ∙ ap (λ s. head_name f s) c.sort_at.ensures) c.in_default.not-Some in
    λ depth room. concrete_refused types c.args.context.scope f depth c.args.tokens.now c.next_token.result.1.now x c.next_token.ensures (sym c.is_concrete.ensures ∙ c.if-is_concrete.true) other none c.requires.ended c.fault.result c.fault.ensures

pub returns : goal.returns
returns c =
    let types = c.args.context.types.now in
    let g = there types c.args.context.scope in
    let f = form_seen c.args.form in
    let x = c.next_token.result.0 in
    let other = sym (ap (λ v. is_mark sorts_there.opening (first_sort types v)) c.next_token.ensures) ∙ c.requires.no_group in
    let none = none_named f c.head_name.result (view g.types (sort_of x.kind)) (c.head_name.ensures ∙ ap (λ s. head_name f s) c.sort_at.ensures) c.in_default.not-Some in
    λ depth room. absent_read g f c.args.tokens.now c.next_token.result.1.now x c.next_token.ensures depth c.absent.result c.absent.ensures (sym c.is_concrete.ensures ∙ c.if-is_concrete.false) other none room c.requires.ended
