use Rattle.std.proofs.Common.{refl, sym, ap, ◌∙◌}
use Rattle.sp_parse_grammar.specs.CTokens.{is_mark}
use Rattle.sp_parse_grammar.specs.CTokens as sorts_there
use Rattle.sp_parse_grammar.specs.CTable as grammar
use Rattle.sp_parse_tokens.specs.Sorts.{terminal, c_tokens}
use Rattle.sp_parse_tokens.specs.Scopes.{there}
use Rattle.sp_parse_tokens.specs.declared.scope.AlsoAllowed.TheVariants as also
use Rattle.sp_parse_expr_steps.proofs.Steps.{begun}
use Rattle.sp_parse_expr_steps.proofs.Faulting.{stop_unread}
use Rattle.sp_parse_expr_steps.proofs.StructureSteps.{enum_none}
use Rattle.sp_parse_expr_lists.specs.Heads.{Begins, IsTag}
use Rattle.sp_parse_expr_lists.proofs.Opened.{body_at, body_behind, ended_tag, enum_stops, enum_without}
use Rattle.sp_parse_expr_lists.proofs.heads.enumeration_head.Goals as goal

pub returns-then-is_mark : goal.returns-then-is_mark
returns-then-is_mark c =
    let types = c.args.context.types.now in
    let begins : Begins types sorts_there.brace c.args.tokens.now c.next_token.result.1.now = record { first = c.next_token.result.0; whole = c.next_token.ensures; stands = sym (c.is_mark.ensures ∙ ap (λ s. is_mark sorts_there.brace s) c.sort_at.ensures) ∙ c.if-is_mark.true } in
    (c.requires.word, body_at types c.args.tokens.now c.next_token.result.1.now begins c.requires.ended)

pub returns-in_default : goal.returns-in_default
returns-in_default c =
    let types = c.args.context.types.now in
    let g = there types c.args.context.scope in
    let y = terminal c.args.word in
    let x = c.next_token.result.0 in
    let other = sym (c.is_mark.ensures ∙ ap (λ s. is_mark sorts_there.brace s) c.sort_at.ensures) ∙ c.if-is_mark.false in
    enum_stops g c.args.depth c.args.word c.args.tokens.now c.requires.word c.fault.result (stop_unread types c.args.context.scope also.Nothing (grammar.behind_enum y) (grammar.behind_enum y) (λ a. a) c.args.depth c.args.tokens.now c.args.tokens.now c.next_token.result.1.now x (begun (grammar.at g (grammar.behind_enum y)) (c_tokens c.args.tokens.now)) c.next_token.ensures (enum_none types g y (terminal x) x.kind c.in_default.not-Name other) (λ v. refl) c.requires.ended c.fault.result c.fault.ensures)

pub returns-then-is_mark-2 : goal.returns-then-is_mark-2
returns-then-is_mark-2 c =
    let types = c.args.context.types.now in
    let tag : IsTag c.in-Name.name c.args.tokens.now c.next_token.result.1.now = record { first = c.next_token.result.0; whole = c.next_token.ensures; is = sym c.in-Name.is } in
    let begins : Begins types sorts_there.brace c.next_token.result.1.now c.next_token-2.result.1.now = record { first = c.next_token-2.result.0; whole = c.next_token-2.ensures; stands = sym (c.is_mark-2.ensures ∙ ap (λ s. is_mark sorts_there.brace s) c.sort_at-2.ensures) ∙ c.if-is_mark-2.true } in
    (c.requires.word, body_behind types c.in-Name.name c.args.tokens.now c.next_token.result.1.now c.next_token-2.result.1.now tag begins c.requires.ended)

pub returns : goal.returns
returns c =
    let types = c.args.context.types.now in
    let g = there types c.args.context.scope in
    let xs = c.next_token.result.1.now in
    let tag : IsTag c.in-Name.name c.args.tokens.now c.next_token.result.1.now = record { first = c.next_token.result.0; whole = c.next_token.ensures; is = sym c.in-Name.is } in
    let other = sym (c.is_mark-2.ensures ∙ ap (λ s. is_mark sorts_there.brace s) c.sort_at-2.ensures) ∙ c.if-is_mark-2.false in
    enum_without g c.args.depth c.in-Name.name c.args.word c.args.tokens.now xs c.requires.word (record {
      tagged = tag;
      alone = record { first = c.next_token-2.result.0; behind = c.next_token-2.result.1.now; whole = c.next_token-2.ensures; missing = other };
      ended = ended_tag c.in-Name.name c.args.tokens.now xs tag c.requires.ended;
    })
