use Rattle.std.proofs.Common.{refl, sym, ap, ◌∙◌}
use Rattle.sp_parse_grammar.specs.CTokens.{is_mark}
use Rattle.sp_parse_grammar.specs.CTokens as sorts_there
use Rattle.sp_parse_expr_lists.specs.Heads.{Begins}
use Rattle.sp_parse_expr_lists.proofs.parameters.list_end.Goals as goal

pub returns-then-not-is_mark : goal.returns-then-not-is_mark
returns-then-not-is_mark c =
    (refl, refl, record { first = c.next_token.result.0; behind = c.next_token.result.1.now; whole = c.next_token.ensures; missing = sym (c.is_mark.ensures ∙ ap (λ s. is_mark sorts_there.comma s) c.sort_at.ensures) ∙ c.if-not-is_mark.true })

pub next_token-requires : goal.next_token-requires
next_token-requires c = c.requires

pub returns-then-is_mark : goal.returns-then-is_mark
returns-then-is_mark c =
    let comma : Begins c.args.context.types.now sorts_there.comma c.args.tokens.now c.next_token.result.1.now = record { first = c.next_token.result.0; whole = c.next_token.ensures; stands = sym (c.is_mark.ensures ∙ ap (λ s. is_mark sorts_there.comma s) c.sort_at.ensures) ∙ c.if-not-is_mark.false } in
    let dots : Begins c.args.context.types.now sorts_there.ellipsis c.next_token.result.1.now c.next_token-2.result.1.now = record { first = c.next_token-2.result.0; whole = c.next_token-2.ensures; stands = sym (c.is_mark-2.ensures ∙ ap (λ s. is_mark sorts_there.ellipsis s) c.sort_at-2.ensures) ∙ c.if-is_mark.true } in
    (refl, record { mid = c.next_token.result.1.now; comma = comma; dots = dots })

pub returns : goal.returns
returns c =
    let comma : Begins c.args.context.types.now sorts_there.comma c.args.tokens.now c.next_token.result.1.now = record { first = c.next_token.result.0; whole = c.next_token.ensures; stands = sym (c.is_mark.ensures ∙ ap (λ s. is_mark sorts_there.comma s) c.sort_at.ensures) ∙ c.if-not-is_mark.false } in
    (refl, comma, record { first = c.next_token-2.result.0; behind = c.next_token-2.result.1.now; whole = c.next_token-2.ensures; missing = sym (c.is_mark-2.ensures ∙ ap (λ s. is_mark sorts_there.ellipsis s) c.sort_at-2.ensures) ∙ c.if-is_mark.false })
