use Rattle.std.proofs.Common.{◌≡◌, ◌∷◌, ◌+◌, Some, map, length, ap, ◌∙◌, subst, arith}
use Rattle.std.proofs.lemmas.Result.{err_from_is_err_and, MatchResult-at_ok, MatchResult-at_err}
use Rattle.sp_parse_trees.specs.Syntax.{struct_specifier, struct_spec}
use Rattle.sp_parse_trees.specs.View.{declaration_of}
use Rattle.sp_parse_tokens.specs.Makers.{is_union, some_members}
use Rattle.sp_parse_grammar.specs.CTokens as tokens
use Rattle.sp_parse_tokens.specs.Scopes.{there}
use Rattle.sp_parse_tokens.specs.Expecting.{IsExpected, IsUnexpected}
use Rattle.sp_parse_tokens.specs.declared.scope.AlsoAllowed.TheVariants as also
use Rattle.sp_parse_expr_steps.proofs.StructureSteps.{inner}
use Rattle.sp_parse_expr_lists.proofs.Opened.{struct_stop, struct_read}
use Rattle.sp_parse_expr_lists.proofs.MemberLists.{at_brace, members_end}
use Rattle.sp_parse_expr_lists.proofs.members.closed_structure.Goals as goal

pub returns-in_err-rest : goal.returns-in_err-rest
returns-in_err-rest c =
    let p = err_from_is_err_and c.from_residual.result c.from_residual.ensures.1 in
    let types = c.args.context.types.now in
    let g = there types c.args.context.scope in
    let stop = c.in_err-rest.field-0.0 in
    let head = c.requires.head in
    let room = head.1 in
    let inside = c.args.head.rest.now in
    let rest = c.args.members.rest.now in
    let ds = map declaration_of c.args.members.all.items in
    let b = c.requires.behind.goes_on.0 in
    rw (p.1, p.2) (struct_stop types c.args.context.scope c.args.word c.args.depth c.args.tokens.now inside (omega (arith, room)) c.args.head.tag head.0 head.2 stop (at_brace g (inner c.args.context.scope) c.args.depth inside stop (record {
      first = b.first;
      mid = b.mid;
      one = b.one;
      all = ds;
      last = rest;
      more = members_end g inside ds rest b c.requires.behind.goes_on.1;
      ended = c.requires.behind.ended;
      why = subst (λ s. IsUnexpected types s tokens.unbrace also.TypeSpecifier rest stop) c.inside_structure.ensures.scope (subst (λ v. IsUnexpected v c.inside_structure.result.scope tokens.unbrace also.TypeSpecifier rest stop) c.inside_structure.ensures.types (MatchResult-at_err _ _ _ c.in_err-rest.ensures c.expect-next.ensures));
    })))

pub returns : goal.returns
returns c =
    let types = c.args.context.types.now in
    let g = there types c.args.context.scope in
    let head = c.requires.head in
    let room = head.1 in
    let inside = c.args.head.rest.now in
    let members = c.args.members in
    let rest = members.rest.now in
    let ds = map declaration_of members.all.items in
    let h = c.requires.behind in
    let b = h.goes_on.0 in
    let word = c.args.word in
    let closes = subst (λ v. IsExpected v tokens.unbrace rest c.in_ok-rest.rest.now) c.inside_structure.ensures.types (MatchResult-at_ok _ _ _ c.in_ok-rest.ensures.0 c.expect-next.ensures) in
    let less : length rest ≡ length (closes.first ∷ c.in_ok-rest.rest.now) = ap length closes.whole in
    struct_read types c.args.context.scope word c.args.depth c.args.tokens.now inside (omega (arith, room)) c.args.head.tag head.0 head.2 (record { tree = c.in_ok-structure.field-0; depth = 1 + members.depth; rest = c.in_ok-rest.rest }) (record {
      first = b.first;
      mid = b.mid;
      one = b.one;
      all = ds;
      last = rest;
      more = members_end g inside ds rest b h.goes_on.1;
      closes = closes;
      makes = c.in_ok-structure.ensures ∙ ap (λ v. struct_specifier (struct_spec (is_union word.kind) c.args.head.tag (some_members (Some (map declaration_of v.items))) word.place)) c.in_ok-rest.ensures.1;
      deeper = ap (λ n. 1 + n) h.deep;
      shallow = omega (arith, h.shallow, room);
      fewer = omega (arith, h.fewer, less);
    })
