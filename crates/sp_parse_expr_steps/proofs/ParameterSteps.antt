-- Lists of parameters, over plain variables.
use Rattle.std.proofs.Common.{◌≡◌, ℕ, ◌≤◌, Bool, true, false, List, [], ◌∷◌, ◌++◌, map, length, Some, refl, sym, ap, ◌∙◌, subst, arith}
use Rattle.std.specs.Prelude.{max, if◌then◌else◌}
use Rattle.sp_tree.specs.declared.token.Token.{Token}
use Rattle.sp_tree.specs.declared.fault.Place.{Place}
use Rattle.sp_parse_trees.specs.Syntax.{Param}
use Rattle.sp_parse_trees.specs.declared.tree.Param.{Param as CodeParam}
use Rattle.sp_parse_trees.specs.View.{param_of, params}
use Rattle.sp_parse_trees.specs.Depth.{param_depth, params_depth}
use Rattle.sp_parse_tokens.specs.declared.part.Parameters.{Parameters}
use Rattle.sp_parse_tokens.specs.declared.scope.AlsoAllowed.{AlsoAllowed}
use Rattle.sp_parse_tokens.specs.declared.scope.AlsoAllowed.TheVariants as also
use Rattle.sp_parse_grammar.specs.CTokens as tokens
use Rattle.sp_parse_grammar.specs.CTokens.{view, is_mark}
use Rattle.sp_parse_grammar.specs.CTable as grammar
use Rattle.sp_parse_grammar.specs.CTable.{Context, at, c_symbols, get, next, begins_specifiers}
use Rattle.sp_parse_grammar.specs.Table.{Plan, done}
use Rattle.sp_parse_tokens.specs.Sorts.{terminal, sort_of, c_tokens}
use Rattle.sp_parse_tokens.specs.SyntaxTrees.{syntax_trees}
use Rattle.sp_parse_tokens.specs.Makers.{settle_param, settle_last, first_place}
use Rattle.sp_parse_tokens.specs.Ended.{IsEnded}
use Rattle.sp_parse_tokens.proofs.Settled.{settle_param_depth, settle_last_depth, params_snoc}
use Rattle.sp_parse_tokens.specs.Scopes.{allowed_seen}
use Rattle.sp_parse_expr_steps.specs.Reading.{IsStep}
use Rattle.sp_parse_expr_steps.specs.Declaring.{IsGiven, AreGiven, ParametersSoFar}
use Rattle.sp_parse_expr_steps.proofs.Steps.{enter, took_token, got, last, finished}
use Rattle.sp_parse_expr_steps.proofs.Parts.{IsOn, chosen}
use Rattle.sp_parse_tokens.proofs.Viewing.{ended_other}
use Rattle.sp_parse_expr_steps.proofs.ExpressionSteps.{built, first_same}
use Rattle.sp_parse_expr_steps.proofs.ListSteps.{choice_ends, choice_taken, map_more}

-- behind a comma and behind `...` the tokens end in the same way
pub ended_comma : (types : List ℕ) (x : Token) (xs : List Token) → is_mark tokens.comma (view types (sort_of x.kind)) ≡ true → IsEnded (x ∷ xs) → IsEnded xs
ended_comma types x xs stands ended = ended_other x xs ended (λ same. no_comma (subst (λ v. is_mark tokens.comma (view types v) ≡ true) same stands))
  where
    no_comma : is_mark tokens.comma (tokens.mark tokens.end) ≡ true → ⊥
    no_comma e = cc

pub ended_ellipsis : (types : List ℕ) (x : Token) (xs : List Token) → is_mark tokens.ellipsis (view types (sort_of x.kind)) ≡ true → IsEnded (x ∷ xs) → IsEnded xs
ended_ellipsis types x xs stands ended = ended_other x xs ended (λ same. no_dots (subst (λ v. is_mark tokens.ellipsis (view types v) ≡ true) same stands))
  where
    no_dots : is_mark tokens.ellipsis (tokens.mark tokens.end) ≡ true → ⊥
    no_dots e = cc

abbrev pub given_list : List Param → AlsoAllowed → grammar.Parameters syntax_trees
given_list ps p = record { all = ps; dots = false; behind = allowed_seen p }

abbrev pub first_more : (g : Context) (p : grammar.Given syntax_trees) → Plan (c_symbols syntax_trees) (at g grammar.parameters)
first_more g p = get g (grammar.more_parameters (record { all = p.tree ∷ []; dots = false; behind = p.behind })) (λ ps. done ps)

module _ (g : Context) (text xs : List Token) (x : Token) (e : text ≡ x ∷ xs) where
  pub parameters_on : begins_specifiers true g.inside (view g.types (sort_of x.kind)) ≡ true → IsOn g g grammar.parameters grammar.parameters (λ a. a) (get g grammar.parameter (first_more g)) text text
  parameters_on stands = first_same g grammar.parameters text xs x (view g.types (sort_of x.kind)) e refl (get g grammar.parameter (first_more g)) (ap (λ b. if b then Some (get g grammar.parameter (first_more g)) else Some (done grammar.without_parameters)) stands)

  pub no_parameters : (d : ℕ) (ps : Parameters) → begins_specifiers true g.inside (view g.types (sort_of x.kind)) ≡ false → IsEnded text → ps.all.items ≡ [] → ps.dots ≡ false → ps.behind ≡ also.Parameter → AreGiven g d text ps 0 text
  no_parameters d ps other ended none plain behind =
      let given : (items : List CodeParam) (b : Bool) → items ≡ [] → b ≡ false → map param_of items ≡ (if b then [] else settle_last (first_place text) []) = λ items b i j. ap (λ v. map param_of v) i ∙ ap (λ v. if v then [] else settle_last (first_place text) []) (sym j) in
      let same : ◌≡◌ {A = grammar.Parameters syntax_trees} (record { all = []; dots = ps.dots; behind = allowed_seen ps.behind }) grammar.without_parameters = ap (λ v. record { all = []; dots = v; behind = allowed_seen ps.behind }) plain ∙ ap (λ v. record { all = []; dots = false; behind = allowed_seen v }) behind in
      record {
        pending = [];
        settled = given ps.all.items ps.dots none plain;
        read = built g grammar.parameters d 0 text text grammar.without_parameters (record { all = []; dots = ps.dots; behind = allowed_seen ps.behind }) (finished (first_same g grammar.parameters text xs x (view g.types (sort_of x.kind)) e refl (done grammar.without_parameters) (ap (λ b. if b then Some (get g grammar.parameter (first_more g)) else Some (done grammar.without_parameters)) other))) same refl (omega arith) ended (omega arith);
      }

-- the first of the parameters
pub first_given : (g : Context) (d n : ℕ) (text rest : List Token) (p : CodeParam) (behind : AlsoAllowed) (items : List CodeParam) → IsOn g g grammar.parameters grammar.parameters (λ a. a) (get g grammar.parameter (first_more g)) text text → IsGiven g d text p behind n rest → items ≡ p ∷ [] → ParametersSoFar g text items behind rest
first_given g d n text rest p behind items on h same = record {
  pending = h.pending ∷ [];
  settled = ap (λ v. map param_of v) same ∙ ap (λ v. v ∷ []) h.settled;
  step = last (got on h.read.reads);
}

pub given_depth : (p : Place) (a b : Param) (n : ℕ) → a ≡ settle_param p b → n ≡ param_depth b → n ≡ param_depth a
given_depth p a b n e deep = deep ∙ (sym (settle_param_depth p b) ∙ sym (ap (λ v. param_depth v) e))

pub more_given_deep : (items now : List CodeParam) (p : CodeParam) (m n k : ℕ) → now ≡ items ++ p ∷ [] → m ≡ params_depth (params (map param_of items)) → n ≡ param_depth (param_of p) → k ≡ max m n → k ≡ params_depth (params (map param_of now))
more_given_deep items now p m n k same deep one both =
    let here : params_depth (params (map param_of now)) ≡ params_depth (params (map param_of items ++ param_of p ∷ [])) = ap (λ v. params_depth (params v)) (ap (λ v. map param_of v) same ∙ map_more param_of items p) in
    omega (arith, here, params_snoc (map param_of items) (param_of p), deep, one, both)

-- a list settled before a token, of which one more is known
settle_more : (p : Place) (xs : List Param) (x : Param) → settle_last p (xs ++ x ∷ []) ≡ xs ++ settle_param p x ∷ []
settle_more p [] x = refl
settle_more p (y ∷ []) x = refl
settle_more p (y ∷ z ∷ zs) x = ap (λ v. y ∷ v) (settle_more p (z ∷ zs) x)

module _ (g : Context) (text rest more : List Token) (comma : Token) (items : List CodeParam) (behind : AlsoAllowed) (t : ParametersSoFar g text items behind rest) (e : rest ≡ comma ∷ more) where
  -- the parameters before the comma
  before_comma : map param_of items ≡ settle_last comma.place t.pending
  before_comma = t.settled ∙ ap (λ v. settle_last (first_place v) t.pending) e

  comma_step : is_mark tokens.comma (view g.types (sort_of comma.kind)) ≡ true → IsStep g grammar.parameters (grammar.behind_comma (terminal comma) (given_list t.pending behind)) (λ a. a) text more
  comma_step stands = last (choice_taken g grammar.parameters (grammar.more_parameters (given_list t.pending behind)) (λ a. a) text rest more comma t.step e (is_mark tokens.comma (view g.types (sort_of comma.kind))) (given_list t.pending behind) (λ y. get g (grammar.behind_comma (terminal comma) (given_list t.pending behind)) (λ qs. done qs)) refl stands)

  pub parameters_end : (d n : ℕ) (ps : Parameters) → is_mark tokens.comma (view g.types (sort_of comma.kind)) ≡ false → ps.all.items ≡ items → ps.dots ≡ false → ps.behind ≡ behind → n ≡ params_depth (params (map param_of items)) → n ≤ d → IsEnded rest → length rest ≤ length text → AreGiven g d text ps n rest
  parameters_end d n ps other all plain back deep shallow ended fewer =
      let given : (b : Bool) → b ≡ false → map param_of ps.all.items ≡ (if b then t.pending else settle_last (first_place rest) t.pending) = λ b j. ap (λ v. map param_of v) all ∙ t.settled ∙ ap (λ v. if v then t.pending else settle_last (first_place rest) t.pending) (sym j) in
      let same : ◌≡◌ {A = grammar.Parameters syntax_trees} (record { all = t.pending; dots = ps.dots; behind = allowed_seen ps.behind }) (given_list t.pending behind) = ap (λ v. record { all = t.pending; dots = v; behind = allowed_seen ps.behind }) plain ∙ ap (λ v. record { all = t.pending; dots = false; behind = allowed_seen v }) back in
      let pending_deep : n ≡ params_depth (params t.pending) = deep ∙ ap (λ v. params_depth (params v)) t.settled ∙ settle_last_depth (first_place rest) t.pending in
      record {
        pending = t.pending;
        settled = given ps.dots plain;
        read = built g grammar.parameters d n text rest (given_list t.pending behind) (record { all = t.pending; dots = ps.dots; behind = allowed_seen ps.behind }) (choice_ends g grammar.parameters (grammar.more_parameters (given_list t.pending behind)) (λ a. a) text rest more comma t.step e (is_mark tokens.comma (view g.types (sort_of comma.kind))) (given_list t.pending behind) (next (λ y. get g (grammar.behind_comma (terminal comma) (given_list t.pending behind)) (λ qs. done qs))) refl other) same pending_deep shallow ended (omega (arith, fewer));
      }

  abbrev pub comma_more : grammar.Given syntax_trees → Plan (c_symbols syntax_trees) (at g (grammar.behind_comma (terminal comma) (given_list t.pending behind)))
  comma_more p = get g (grammar.more_parameters (record { all = settle_last comma.place t.pending ++ p.tree ∷ []; dots = false; behind = p.behind })) (λ qs. done qs)

  module _ (xs : List Token) (x : Token) (is : more ≡ x ∷ xs) (stands : is_mark tokens.comma (view g.types (sort_of comma.kind)) ≡ true) where
    pub parameter_next : is_mark tokens.ellipsis (view g.types (sort_of x.kind)) ≡ false → IsOn g g grammar.parameters (grammar.behind_comma (terminal comma) (given_list t.pending behind)) (λ a. a) (get g grammar.parameter comma_more) text more
    parameter_next other = enter (comma_step stands) (ap c_tokens is) (chosen g (grammar.behind_comma (terminal comma) (given_list t.pending behind)) x (view g.types (sort_of x.kind)) (Some (get g grammar.parameter comma_more)) refl (ap (λ b. if b then Some (next (λ y. done (grammar.with_dots (given_list t.pending behind) (terminal comma)))) else Some (get g grammar.parameter comma_more)) other))

    pub dots_end : (d n : ℕ) (ps : Parameters) → is_mark tokens.ellipsis (view g.types (sort_of x.kind)) ≡ true → ps.all.items ≡ items → ps.dots ≡ true → ps.behind ≡ also.Nothing → n ≡ params_depth (params (map param_of items)) → n ≤ d → IsEnded xs → length rest ≤ length text → AreGiven g d text ps n xs
    dots_end d n ps dots all some back deep shallow ended fewer =
        let pending = settle_last comma.place t.pending in
        let ends = grammar.with_dots (given_list t.pending behind) (terminal comma) in
        let on = enter (comma_step stands) (ap c_tokens is) (chosen g (grammar.behind_comma (terminal comma) (given_list t.pending behind)) x (view g.types (sort_of x.kind)) (Some (next (λ y. done ends))) refl (ap (λ b. if b then Some (next (λ y. done ends)) else Some (get g grammar.parameter comma_more)) dots)) in
        let given : (b : Bool) → b ≡ true → map param_of ps.all.items ≡ (if b then pending else settle_last (first_place xs) pending) = λ b j. ap (λ v. map param_of v) all ∙ before_comma ∙ ap (λ v. if v then pending else settle_last (first_place xs) pending) (sym j) in
        let same : ◌≡◌ {A = grammar.Parameters syntax_trees} (record { all = pending; dots = ps.dots; behind = allowed_seen ps.behind }) ends = ap (λ v. record { all = pending; dots = v; behind = allowed_seen ps.behind }) some ∙ ap (λ v. record { all = pending; dots = true; behind = allowed_seen v }) back in
        let less : length rest ≡ length (comma ∷ more) = ap length e in
        let fewer_still : length more ≡ length (x ∷ xs) = ap length is in
        record {
          pending = pending;
          settled = given ps.dots some;
          read = built g grammar.parameters d n text xs ends (record { all = pending; dots = ps.dots; behind = allowed_seen ps.behind }) (finished (took_token on (ap c_tokens is) refl)) same (deep ∙ ap (λ v. params_depth (params v)) before_comma) shallow ended (omega (arith, fewer, less, fewer_still));
        }

    pub next_given : (d n : ℕ) (later : List Token) (p : CodeParam) (now : List CodeParam) (back : AlsoAllowed) → is_mark tokens.ellipsis (view g.types (sort_of x.kind)) ≡ false → IsGiven g d more p back n later → now ≡ items ++ p ∷ [] → ParametersSoFar g text now back later
    next_given d n later p now back other h same = record {
      pending = settle_last comma.place t.pending ++ h.pending ∷ [];
      settled = ap (λ v. map param_of v) same ∙ map_more param_of items p ∙ ap (λ v. v ++ param_of p ∷ []) before_comma ∙ ap (λ v. settle_last comma.place t.pending ++ v ∷ []) h.settled ∙ sym (settle_more (first_place later) (settle_last comma.place t.pending) h.pending);
      step = last (got (parameter_next other) h.read.reads);
    }
