-- The parameters of a function, over plain variables.
use Rattle.std.proofs.Common.{◌≡◌, ℕ, ◌+◌, ◌≤◌, Bool, true, false, List, [], ◌∷◌, ◌++◌, map, length, refl, sym, ap, subst, arith}
use Rattle.std.specs.Prelude.{max}
use Rattle.sp_tree.specs.declared.token.Token.{Token}
use Rattle.sp_parse_trees.specs.View.{param_of, params}
use Rattle.sp_parse_trees.specs.Depth.{params_depth}
use Rattle.sp_parse_trees.specs.declared.tree.Param.{Param as CodeParam}
use Rattle.sp_parse_grammar.specs.CTokens.{view}
use Rattle.sp_parse_grammar.specs.CTable as grammar
use Rattle.sp_parse_grammar.specs.CTable.{Context, begins_specifiers}
use Rattle.sp_parse_tokens.specs.Sorts.{sort_of, terminal}
use Rattle.sp_parse_tokens.specs.Makers.{first_place}
use Rattle.sp_parse_tokens.specs.Ended.{IsEnded}
use Rattle.sp_parse_tokens.specs.declared.part.Parameters.{Parameters}
use Rattle.sp_parse_tokens.specs.declared.scope.AlsoAllowed.{AlsoAllowed}
use Rattle.sp_parse_tokens.specs.declared.scope.AlsoAllowed.TheVariants as also
use Rattle.sp_parse_expr_steps.specs.Declaring.{AreGiven, IsGiven, ParametersSoFar}
use Rattle.sp_parse_expr_steps.proofs.Parts.{stop_part}
use Rattle.sp_parse_expr_steps.proofs.ParameterSteps.{ended_comma, ended_ellipsis, given_list, first_more, parameters_on, no_parameters, first_given, given_depth, more_given_deep, parameters_end, comma_more, parameter_next, dots_end, next_given}
use Rattle.sp_parse_expr_lists.specs.Given.{HasParameters, IsBeforeParameter, IsListEnd}

module _ (g : Context) (depth : ℕ) (text : List Token) where
  pub none_listed : (ps : Parameters) → ps.all.items ≡ [] → ps.dots ≡ false → ps.behind ≡ also.Parameter → (more : Bool) (xs : List Token) (x : Token) → text ≡ x ∷ xs → more ≡ begins_specifiers true g.inside (view g.types (sort_of x.kind)) → IsEnded text → HasParameters g depth text ps more 0 text
  none_listed ps none plain behind true xs x e is ended =
      let on = parameters_on g text xs x e (sym is) in
      subst (λ v. IsBeforeParameter g depth text v 0 text) (sym none) (record {
        takes = λ p back n later h now same. first_given g depth n text later p back now on h same;
        stops = λ s h. stop_part g g g grammar.parameters grammar.parameters grammar.parameter (λ a. a) (first_more g) depth depth text text on (omega arith) s h;
        deep = refl;
        shallow = omega arith;
        ended = ended;
        fewer = omega arith;
      })
  none_listed ps none plain behind false xs x e is ended = no_parameters g text xs x e depth ps (sym is) ended none plain behind

  -- one is read behind those
  go_on : (ps : Parameters) (back : AlsoAllowed) (more : Bool) (k : ℕ) (mid later : List Token) → ParametersSoFar g text ps.all.items back mid → (dots : Bool) → ps.dots ≡ dots → IsListEnd g.types mid back more dots ps.behind later → k ≡ params_depth (params (map param_of ps.all.items)) → k ≤ depth → IsEnded mid → length mid ≤ length text → HasParameters g depth text ps more k later
  go_on ps back true k mid later b true is e deep shallow ended fewer = absurd e
  go_on ps back true k mid later b false is e deep shallow ended fewer =
      let items = ps.all.items in
      let comma = e.1 in
      let x = comma.first in
      let l = e.2 in
      let shorter : length mid ≡ length (x ∷ later) = ap length comma.whole in
      record {
        takes = λ p behind n far h now same. next_given g text mid later x items back b comma.whole l.behind l.first l.whole comma.stands depth n far p now behind l.missing h same;
        stops = λ s h. stop_part g g g grammar.parameters (grammar.behind_comma (terminal x) (given_list b.pending back)) grammar.parameter (λ a. a) (comma_more g text mid later x items back b comma.whole) depth depth text later (parameter_next g text mid later x items back b comma.whole l.behind l.first l.whole comma.stands l.missing) (omega arith) s h;
        deep = deep;
        shallow = shallow;
        ended = ended_comma g.types x later comma.stands (subst IsEnded comma.whole ended);
        fewer = omega (arith, shorter, fewer);
      }
  go_on ps back false k mid later b true is e deep shallow ended fewer =
      let d = e.1 in
      let x = d.comma.first in
      let y = d.dots.first in
      let between = ended_comma g.types x d.mid d.comma.stands (subst IsEnded d.comma.whole ended) in
      dots_end g text mid d.mid x ps.all.items back b d.comma.whole later y d.dots.whole d.comma.stands depth k ps d.dots.stands refl is e.0 deep shallow (ended_ellipsis g.types y later d.dots.stands (subst IsEnded d.dots.whole between)) fewer
  go_on ps back false k mid later b false is e deep shallow ended fewer =
      let l = e.2 in
      subst (λ v. AreGiven g depth text ps k v) (sym e.1) (parameters_end g text mid l.behind l.first ps.all.items back b l.whole depth k ps l.missing refl is e.0 deep shallow ended fewer)

  -- at the end of a list fewer tokens are left
  end_fewer : (back behind : AlsoAllowed) (more dots : Bool) (mid later : List Token) → IsListEnd g.types mid back more dots behind later → length later ≤ length mid
  end_fewer back behind true true mid later e = absurd e
  end_fewer back behind true false mid later e =
      let comma = e.1 in
      let shorter : length mid ≡ length (comma.first ∷ later) = ap length comma.whole in
      omega (arith, shorter)
  end_fewer back behind false true mid later e =
      let d = e.1 in
      let shorter : length mid ≡ length (d.comma.first ∷ d.mid) = ap length d.comma.whole in
      let less : length d.mid ≡ length (d.dots.first ∷ later) = ap length d.dots.whole in
      omega (arith, shorter, less)
  end_fewer back behind false false mid later e = omega (arith, ap length e.1)

  pub one_listed : (was : Parameters) (ps : Parameters) (p : CodeParam) (back : AlsoAllowed) (m n k : ℕ) (rest mid later : List Token) (more : Bool) → HasParameters g depth text was true m rest → IsGiven g depth rest p back n mid → ps.all.items ≡ was.all.items ++ p ∷ [] → k ≡ max m n → IsListEnd g.types mid back more ps.dots ps.behind later → HasParameters g depth text ps more k later × (1 + length later ≤ length rest)
  one_listed was ps p back m n k rest mid later more b h same top e =
      let less = end_fewer back ps.behind more ps.dots mid later e in
      let item = given_depth (first_place mid) (param_of p) h.pending n h.settled h.read.deep in
      (go_on ps back more k mid later (b.takes p back n mid h ps.all.items same) ps.dots refl e (more_given_deep was.all.items ps.all.items p m n k same b.deep item top) (omega (arith, top, b.shallow, h.read.shallow)) h.read.ended (omega (arith, h.read.fewer, b.fewer)), omega (arith, h.read.fewer, less))
