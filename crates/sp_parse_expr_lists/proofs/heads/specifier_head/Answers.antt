use Rattle.std.proofs.Common.{sym, ap, ◌∙◌}
use Rattle.sp_parse_grammar.specs.CTokens.{is_mark, view}
use Rattle.sp_parse_grammar.specs.CTokens as sorts_there
use Rattle.sp_parse_tokens.specs.Sorts.{sort_of}
use Rattle.sp_parse_tokens.specs.Scopes.{there}
use Rattle.sp_parse_expr_lists.proofs.Opened.{word_without}
use Rattle.sp_parse_expr_lists.proofs.heads.specifier_head.Goals as goal

pub structure_head-requires : goal.structure_head-requires
structure_head-requires c =
    let stands = sym (c.is_mark.ensures ∙ ap (λ s. is_mark sorts_there.struct s) c.sort_at-sort.ensures) ∙ c.if-is_mark.true in
    record { ended = c.requires.ended; word = stands; room = c.requires.room stands }

pub enumeration_head-requires : goal.enumeration_head-requires
enumeration_head-requires c =
    let stands = sym (c.is_mark-2.ensures ∙ ap (λ s. is_mark sorts_there.enum s) c.sort_at-sort.ensures) ∙ c.if-is_mark-2.true in
    record { ended = c.requires.ended; word = stands }

pub returns : goal.returns
returns c =
    let types = c.args.context.types.now in
    let no_struct = sym (c.is_mark.ensures ∙ ap (λ s. is_mark sorts_there.struct s) c.sort_at-sort.ensures) ∙ c.if-is_mark.false in
    let no_enum = sym (c.is_mark-2.ensures ∙ ap (λ s. is_mark sorts_there.enum s) c.sort_at-sort.ensures) ∙ c.if-is_mark-2.false in
    word_without (there types c.args.context.scope) c.args.depth (view types (sort_of c.args.token.kind)) c.args.tokens.now no_struct no_enum
