use Rattle.std.proofs.Common.{◌≡◌, ◌∷◌, Some, map, length, ap, ◌∙◌, arith}
use Rattle.std.proofs.lemmas.Result.{err_from_is_err_and, MatchResult-at_ok, MatchResult-at_err}
use Rattle.sp_parse_trees.specs.Syntax.{enum_specifier, enum_spec}
use Rattle.sp_parse_tokens.specs.Makers.{some_constants}
use Rattle.sp_parse_tokens.specs.Scopes.{there}
use Rattle.sp_parse_expr_steps.specs.Declaring.{constant_seen}
use Rattle.sp_parse_expr_lists.proofs.Opened.{enum_stop, enum_read}
use Rattle.sp_parse_expr_lists.proofs.ConstantLists.{at_end, constants_end}
use Rattle.sp_parse_expr_lists.proofs.constants.closed_enumeration.Goals as goal

pub returns-in_err-rest : goal.returns-in_err-rest
returns-in_err-rest c =
    let p = err_from_is_err_and c.from_residual.result c.from_residual.ensures.1 in
    let types = c.args.context.types.now in
    let g = there types c.args.context.scope in
    let stop = c.in_err-rest.field-0.0 in
    let head = c.requires.head in
    let inside = c.args.head.rest.now in
    let rest = c.args.constants.rest.now in
    let es = map constant_seen c.args.constants.all.items in
    let b = c.requires.behind.goes_on.0 in
    rw (p.1, p.2) (enum_stop types c.args.context.scope c.args.word c.args.depth c.args.tokens.now inside c.args.head.tag head.0 head.1 stop (at_end g c.args.context.scope c.args.depth inside stop (record {
      first = b.first;
      mid = b.mid;
      one = b.one;
      all = es;
      last = rest;
      more = constants_end g inside es rest b c.requires.behind.goes_on.1;
      ended = c.requires.behind.ended;
      why = MatchResult-at_err _ _ _ c.in_err-rest.ensures c.expect-next.ensures;
    })))

pub returns : goal.returns
returns c =
    let types = c.args.context.types.now in
    let g = there types c.args.context.scope in
    let head = c.requires.head in
    let inside = c.args.head.rest.now in
    let constants = c.args.constants in
    let rest = constants.rest.now in
    let es = map constant_seen constants.all.items in
    let h = c.requires.behind in
    let b = h.goes_on.0 in
    let word = c.args.word in
    let closes = MatchResult-at_ok _ _ _ c.in_ok-rest.ensures.0 c.expect-next.ensures in
    let less : length rest ≡ length (closes.first ∷ c.in_ok-rest.rest.now) = ap length closes.whole in
    enum_read types c.args.context.scope word c.args.depth c.args.tokens.now inside c.args.head.tag head.0 head.1 (record { tree = c.in_ok-enumeration.field-0; depth = constants.depth; rest = c.in_ok-rest.rest }) (record {
      first = b.first;
      mid = b.mid;
      one = b.one;
      all = es;
      last = rest;
      more = constants_end g inside es rest b h.goes_on.1;
      closes = closes;
      makes = c.in_ok-enumeration.ensures ∙ ap (λ v. enum_specifier (enum_spec c.args.head.tag (some_constants (Some (map constant_seen v.items))) word.place)) c.in_ok-rest.ensures.1;
      deeper = h.deep;
      shallow = h.shallow;
      fewer = omega (arith, h.fewer, less);
    })
