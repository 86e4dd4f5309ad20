use Rattle.std.proofs.Common.{subst, arith}
use Rattle.std.specs.Prelude.{option_map}
use Rattle.std.proofs.lemmas.Result.{err_from_is_err_and, MatchResult-at_ok, MatchResult-at_err}
use Rattle.sp_parse_trees.specs.View.{tree_of}
use Rattle.sp_parse_tokens.specs.Scopes.{there}
use Rattle.sp_parse_expr_steps.specs.Declaring.{IsArray}
use Rattle.sp_parse_expr_steps.proofs.DeclaratorParts.{array_unclosed}
use Rattle.sp_parse_expr_ends.proofs.declarators.arrayed.Goals as goal

pub returns-in_err-rest : goal.returns-in_err-rest
returns-in_err-rest c =
    let p = err_from_is_err_and c.from_residual-in_err-rest.result c.from_residual-in_err-rest.ensures.1 in
    let g = there c.args.context.types.now c.args.context.scope in
    rw (p.1, p.2) (array_unclosed g c.args.context.scope c.args.depth c.args.tokens.now c.in_err-rest.field-0.0 (record {
      size = option_map tree_of c.in_ok-length.length.tree;
      size_depth = c.in_ok-length.length.depth;
      mid = c.in_ok-length.length.rest.now;
      read = MatchResult-at_ok _ _ _ c.in_ok-length.ensures.0 c.requires.read;
      also_allowed = c.length_allowed-also_allowed.result;
      wanted = c.length_allowed-also_allowed.ensures;
      why = MatchResult-at_err _ _ _ c.in_err-rest.ensures c.expect-next.ensures;
    }))

pub returns : goal.returns
returns c =
    let h = MatchResult-at_ok _ _ _ c.in_ok-length.ensures.0 c.requires.read in
    let closes = MatchResult-at_ok _ _ _ c.in_ok-rest.ensures.0 c.expect-next.ensures in
    let size = option_map tree_of c.in_ok-length.length.tree in
    let a = subst (λ v. IsArray v size c.in_ok-array_of.field-0) c.in_ok-length.ensures.1 (subst (λ v. IsArray v.0 (option_map tree_of v.1) c.in_ok-array_of.field-0) c.in_ok-rest.ensures.1 c.in_ok-array_of.ensures) in
    record {
      size = size;
      size_depth = c.in_ok-length.length.depth;
      mid = c.in_ok-length.length.rest.now;
      read = h;
      closes = closes;
      makes = a.tree;
      declares = a.declares;
      shape = a.shape;
      behind = a.behind;
      deeper = omega (arith, c.max.ensures, c.requires.deep);
      shallow = omega (arith, c.max.ensures, h.shallow, c.requires.shallow);
    }
