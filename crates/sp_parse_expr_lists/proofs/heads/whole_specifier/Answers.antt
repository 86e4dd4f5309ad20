use Rattle.std.proofs.Common.{Some, sym, ap, ◌∙◌, subst}
use Rattle.sp_parse_grammar.specs.CTokens.{is_mark, view}
use Rattle.sp_parse_grammar.specs.CTokens as sorts_there
use Rattle.sp_parse_tokens.specs.Sorts.{sort_of}
use Rattle.sp_parse_tokens.specs.Scopes.{there}
use Rattle.sp_parse_expr_steps.specs.Declaring.{IsSpecifier}
use Rattle.sp_parse_expr_steps.proofs.SpecifierSteps.{struct_is}
use Rattle.sp_parse_expr_lists.specs.Heads.{IsWithoutBody}
use Rattle.sp_parse_expr_lists.proofs.Opened.{word_read, enum_left, struct_tagged, enum_tagged}
use Rattle.sp_parse_expr_lists.proofs.heads.whole_specifier.Goals as goal

pub returns-in_default : goal.returns-in_default
returns-in_default c =
    let types = c.args.context.types.now in
    word_read (there types c.args.context.scope) c.args.depth c.args.token c.args.tokens.now c.args.head.rest.now (view types (sort_of c.args.token.kind)) c.args.head.tag c.requires.head c.in_default.not-Some c.word_specifier.result c.word_specifier.ensures

pub returns-then-is_mark : goal.returns-then-is_mark
returns-then-is_mark c =
    let types = c.args.context.types.now in
    let g = there types c.args.context.scope in
    let x = c.args.token in
    let s = view types (sort_of x.kind) in
    let rest = c.args.head.rest.now in
    let is = struct_is s (sym (c.is_mark.ensures ∙ ap (λ s. is_mark sorts_there.struct s) c.sort_at.ensures) ∙ c.if-is_mark.true) in
    let head = subst (λ v. IsWithoutBody g c.args.depth v c.args.tokens.now (Some c.in-Some.tag) rest) is (subst (λ v. IsWithoutBody g c.args.depth s c.args.tokens.now v rest) c.in-Some.is c.requires.head) in
    let sp = c.in_ok-tagged_structure.field-0 in
    subst (λ v. IsSpecifier g c.args.depth v x c.args.tokens.now sp 1 rest) (sym is) (struct_tagged g c.args.depth x c.args.tokens.now rest c.in-Some.tag head sp c.in_ok-tagged_structure.ensures)

pub returns : goal.returns
returns c =
    let types = c.args.context.types.now in
    let g = there types c.args.context.scope in
    let x = c.args.token in
    let s = view types (sort_of x.kind) in
    let rest = c.args.head.rest.now in
    let tagged = subst (λ v. IsWithoutBody g c.args.depth s c.args.tokens.now v rest) c.in-Some.is c.requires.head in
    let is = enum_left g c.args.depth x c.args.tokens.now rest s c.in-Some.tag (sym (c.is_mark.ensures ∙ ap (λ s. is_mark sorts_there.struct s) c.sort_at.ensures) ∙ c.if-is_mark.false) tagged in
    let head = subst (λ v. IsWithoutBody g c.args.depth v c.args.tokens.now (Some c.in-Some.tag) rest) is tagged in
    let sp = c.in_ok-tagged_enumeration.field-0 in
    subst (λ v. IsSpecifier g c.args.depth v x c.args.tokens.now sp 0 rest) (sym is) (enum_tagged g c.args.depth x c.args.tokens.now rest c.in-Some.tag head sp c.in_ok-tagged_enumeration.ensures)
