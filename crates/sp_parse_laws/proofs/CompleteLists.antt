-- Type names, parameters, structures and enumerations are read from their tokens, given that their parts are.
use Rattle.std.proofs.Common.{◌≡◌, ◌<◌, Bool, true, false, List, [], ◌∷◌, ◌++◌, refl, sym, ap, ap₂, ◌∙◌, subst, arith, append_assoc}
use Rattle.std.specs.Prelude.{is_some, is_none, ◌||◌}
use Rattle.sp_tree.specs.declared.token.Kind.{Kind}
use Rattle.sp_tree.specs.declared.token.Kind.TheVariants as kinds
use Rattle.sp_tree.specs.declared.token.Punct.TheVariants as puncts
use Rattle.sp_parse_trees.specs.Syntax as syntax
use Rattle.sp_parse_trees.specs.Syntax.{Expression, Declarator, declarator, Specifiers, Param, Params, no_params, next_param}
use Rattle.sp_parse_trees.specs.Spelling.{declarator_tokens, specifiers_tokens}
use Rattle.sp_parse_trees.specs.Levels.{declared_name, is_absent}
use Rattle.sp_parse_grammar.specs.CTokens as tokens
use Rattle.sp_parse_grammar.specs.CTokens.{Sort, Seen, view, is_mark, looseness, is_specifier, is_declaring, nothing_seen, add, add_word}
use Rattle.sp_parse_grammar.specs.CTable as grammar
use Rattle.sp_parse_grammar.specs.CTable.{Context, Declared, Specified, Parameters, Items, Form, at, plan, begins_expression, begins_specifiers, IsBehindSpecifiers, IsOutside, is_parameters}
use Rattle.sp_parse_grammar.specs.Table.{read_done, read_take}
use Rattle.sp_parse_grammar.proofs.Readings.{join, at_tokens}
use Rattle.sp_parse_grammar.proofs.CChecked.{if_true, if_false}
use Rattle.sp_parse_tokens.specs.Makers as make
use Rattle.sp_parse_tokens.specs.Sorts.{Terminal}
use Rattle.sp_parse_tokens.specs.SyntaxTrees.{syntax_trees}
use Rattle.sp_parse_laws.specs.Bare.{bare_specifiers, bare_declarator, bare_param}
use Rattle.sp_parse_laws.proofs.BareAnswers.{before_params, no_param_behind, param_behind, settle_last_bare}
use Rattle.sp_parse_laws.specs.Spelled.{kinds_at}
use Rattle.sp_parse_laws.proofs.Completing.{cut, head, sort_at, Reading, chosen, nothing, moved}
use Rattle.sp_parse_laws.proofs.CompleteExpressions.{none_left}
use Rattle.sp_parse_laws.proofs.CompleteOperators.{TypeComplete}
use Rattle.sp_parse_laws.proofs.CompleteParts.{Next, Commas, no_comma, a_comma, next_of, closing_sort}
use Rattle.sp_parse_laws.proofs.CompleteSpecifiers.{Rest, Specifying}
use Rattle.sp_parse_laws.proofs.CompleteDeclarators.{Declaring, Parametrising}
use Rattle.sp_parse_laws.proofs.LevelledAnswers.{NamesForm}

-- the first of some tokens
record Some_first (ws : List Terminal) (z : Terminal) (zs : List Terminal) : Type 0 where
  first : Terminal
  rest : List Terminal
  whole : ws ++ z ∷ zs ≡ first ∷ rest

some_first : (ws : List Terminal) (z : Terminal) (zs : List Terminal) → Some_first ws z zs
some_first [] z zs = record { first = z; rest = zs; whole = refl }
some_first (x ∷ ws) z zs = record { first = x; rest = ws ++ z ∷ zs; whole = refl }

-- no declarator spells nothing
none_at : (d : Declarator) → is_absent d ≡ true → declarator_tokens d ≡ []
none_at (declarator syntax.absent p) e = refl
none_at (declarator (syntax.declared n) p) e = absurd cc
none_at (declarator (syntax.group d) p) e = absurd cc
none_at (declarator (syntax.pointer ks d) p) e = absurd cc
none_at (declarator (syntax.array d n) p) e = absurd cc
none_at (declarator (syntax.function d ps dots) p) e = absurd cc

-- behind specifiers a declarator, or what stands behind it, begins
behind_specifiers : (g : Context) (d : Declarator) → Declaring g d → (ws : List Terminal) (z : Terminal) (zs : List Terminal) → kinds_at ws ≡ declarator_tokens d → IsBehindSpecifiers (view g.types z.sort) → Next g IsBehindSpecifiers (ws ++ z ∷ zs)
behind_specifiers g d inner ws z zs is stops = by_absent g d inner ws z zs is stops (is_absent d) refl
  where
    by_absent : (g : Context) (d : Declarator) → Declaring g d → (ws : List Terminal) (z : Terminal) (zs : List Terminal) → kinds_at ws ≡ declarator_tokens d → IsBehindSpecifiers (view g.types z.sort) → (b : Bool) → is_absent d ≡ b → Next g IsBehindSpecifiers (ws ++ z ∷ zs)
    by_absent g d inner ws z zs is stops true e = record { first = z; rest = zs; whole = ap (λ v. v ++ z ∷ zs) (none_left ws (is ∙ none_at d e)); holds = stops }
    by_absent g d inner ws z zs is stops false e = let h = inner.heads e ws (z ∷ zs) is in record { first = h.first; rest = h.rest; whole = h.whole; holds = (h.holds.specifier, h.holds.brace) }

-- specifiers and a declarator, read one behind the other
pub record Declared_by (g : Context) (stores : Bool) (f : Form) (n : Specifiers) (m : Declarator) (xs ys : List Terminal) : Type 0 where
  pub mid : List Terminal
  pub specifiers : Reading g (grammar.specifiers stores nothing_seen grammar.no_specifiers) n xs mid
  pub declared : Reading g (grammar.declarator f) m mid ys

pub declared_by : (g : Context) (stores : Bool) (f : Form) (ss : Specifiers) (d : Declarator) → Specifying g ss → Rest g stores nothing_seen 0 [] ss → Declaring g d → NamesForm f d → (ws : List Terminal) (z : Terminal) (zs : List Terminal) → kinds_at ws ≡ specifiers_tokens ss ++ declarator_tokens d → IsOutside (view g.types z.sort) → Declared_by g stores f (bare_specifiers ss) (bare_declarator d) (ws ++ z ∷ zs) (z ∷ zs)
declared_by g stores f ss d specs rest decl n ws z zs is stops =
    let c = cut ws (specifiers_tokens ss) (declarator_tokens d) is in
    let b = behind_specifiers g d decl c.right z zs c.right_is stops.0 in
    let r = specs.read stores nothing_seen 0 [] grammar.no_specifiers rest c.left b.first b.rest c.left_is b.holds in
    let e = decl.whole f n c.right z zs c.right_is stops.1 in
    record {
      mid = b.first ∷ b.rest;
      specifiers = moved g (grammar.specifiers stores nothing_seen grammar.no_specifiers) (c.left ++ b.first ∷ b.rest) (ws ++ z ∷ zs) (b.first ∷ b.rest) (ap (λ v. c.left ++ v) (sym b.whole) ∙ sym (append_assoc c.left c.right (z ∷ zs)) ∙ ap (λ v. v ++ z ∷ zs) (sym c.whole)) r;
      declared = moved g (grammar.declarator f) (c.right ++ z ∷ zs) (b.first ∷ b.rest) (z ∷ zs) b.whole e;
    }

outside_closing : (g : Context) (c : Terminal) → c.what.kind ≡ kinds.Mark puncts.RightParenthesis → IsOutside (view g.types c.sort)
outside_closing g c k = subst IsOutside (sym (closing_sort g c k)) ((refl, refl), refl)

-- what may be added begins specifiers
adds_specifier : (stores inside : Bool) (seen : Seen) (s : Sort) → is_some (add stores inside seen s) ≡ true → is_specifier s ≡ true
adds_specifier stores inside seen (tokens.named_type n) e = refl
adds_specifier stores inside seen tokens.storage e = refl
adds_specifier stores inside seen tokens.qualifier e = refl
adds_specifier stores inside seen (tokens.basic w) e = refl
adds_specifier stores inside seen (tokens.mark tokens.struct) e = refl
adds_specifier stores inside seen (tokens.mark tokens.enum) e = refl
adds_specifier stores inside seen (tokens.mark tokens.typedef) e = refl
adds_specifier stores inside seen _ e = absurd cc

-- ---- type names

pub type_complete : (g : Context) (ss : Specifiers) (d : Declarator) → Specifying g ss → Rest g false nothing_seen 0 [] ss → Declaring g d → is_none (declared_name d) ≡ true → TypeComplete g (specifiers_tokens ss ++ declarator_tokens d) (syntax.type_name (bare_specifiers ss) (bare_declarator d))
type_complete g ss d specs rest decl n = record {
  read = λ ws c zs is k. whole_read ws c zs is (outside_closing g c k);
  begins = λ ws is.
      let c = cut ws (specifiers_tokens ss) (declarator_tokens d) is in
      let b = specs.begins false nothing_seen 0 [] rest refl c.left c.right c.left_is in
      record { first = b.first; rest = b.rest; whole = c.whole ∙ b.whole; begins = adds_specifier false g.inside nothing_seen (view g.types b.first.sort) b.holds };
}
  where
    whole_read : (ws : List Terminal) (c : Terminal) (zs : List Terminal) → kinds_at ws ≡ specifiers_tokens ss ++ declarator_tokens d → IsOutside (view g.types c.sort) → Reading g grammar.type_name (syntax.type_name (bare_specifiers ss) (bare_declarator d)) (ws ++ c ∷ zs) (c ∷ zs)
    whole_read ws c zs is stops =
        let r = declared_by g false grammar.abstract ss d specs rest decl n ws c zs is stops in
        let f = some_first ws c zs in
        moved g grammar.type_name (f.first ∷ f.rest) (ws ++ c ∷ zs) (c ∷ zs) (sym f.whole)
        (record { answer = _; read = chosen g grammar.type_name f.first (view g.types f.first.sort) _ f.rest (c ∷ zs) _ refl refl (join (at_tokens f.whole r.specifiers.read) (join r.declared.read read_done)); alike = ap₂ (λ u v. syntax.type_name u v) r.specifiers.alike r.declared.alike })

-- before any token at which a type name may end
pub type_read : (g : Context) (ss : Specifiers) (d : Declarator) → Specifying g ss → Rest g false nothing_seen 0 [] ss → Declaring g d → is_none (declared_name d) ≡ true → (ws : List Terminal) (c : Terminal) (zs : List Terminal) → kinds_at ws ≡ specifiers_tokens ss ++ declarator_tokens d → IsOutside (view g.types c.sort) → Reading g grammar.type_name (syntax.type_name (bare_specifiers ss) (bare_declarator d)) (ws ++ c ∷ zs) (c ∷ zs)
type_read g ss d specs rest decl n ws c zs is stops =
    let r = declared_by g false grammar.abstract ss d specs rest decl n ws c zs is stops in
    let f = some_first ws c zs in
    moved g grammar.type_name (f.first ∷ f.rest) (ws ++ c ∷ zs) (c ∷ zs) (sym f.whole)
    (record { answer = _; read = chosen g grammar.type_name f.first (view g.types f.first.sort) _ f.rest (c ∷ zs) _ refl refl (join (at_tokens f.whole r.specifiers.read) (join r.declared.read read_done)); alike = ap₂ (λ u v. syntax.type_name u v) r.specifiers.alike r.declared.alike })

-- ---- parameters

-- one parameter, before a token outside it
pub record Parameter (g : Context) (ks : List Kind) (n : Param) : Type 0 where
  pub read : (ws : List Terminal) (z : Terminal) (zs : List Terminal) → kinds_at ws ≡ ks → IsOutside (view g.types z.sort) → Reading g grammar.parameter n (ws ++ z ∷ zs) (z ∷ zs)
  pub begins : (ws zs : List Terminal) → kinds_at ws ≡ ks → Next g (λ s. begins_specifiers true g.inside s ≡ true) (ws ++ zs)

pub parameter_complete : (g : Context) (ss : Specifiers) (d : Declarator) → Specifying g ss → Rest g true nothing_seen 0 [] ss → Declaring g d → Parameter g (specifiers_tokens ss ++ declarator_tokens d) (syntax.param (bare_specifiers ss) (bare_declarator d))
parameter_complete g ss d specs rest decl = record {
  read = λ ws z zs is stops.
      let r = declared_by g true grammar.either ss d specs rest decl tt ws z zs is stops in
      let f = some_first ws z zs in
      moved g grammar.parameter (f.first ∷ f.rest) (ws ++ z ∷ zs) (z ∷ zs) (sym f.whole)
      (record { answer = _; read = chosen g grammar.parameter f.first (view g.types f.first.sort) _ f.rest (z ∷ zs) _ refl refl (join (at_tokens f.whole r.specifiers.read) (join r.declared.read read_done)); alike = ap₂ (λ u v. syntax.param u v) r.specifiers.alike r.declared.alike });
  begins = λ ws zs is.
      let c = cut ws (specifiers_tokens ss) (declarator_tokens d) is in
      let b = specs.begins true nothing_seen 0 [] rest refl c.left (c.right ++ zs) c.left_is in
      record { first = b.first; rest = b.rest; whole = ap (λ v. v ++ zs) c.whole ∙ append_assoc c.left c.right zs ∙ b.whole; holds = b.holds };
}

pub record MoreParameters (g : Context) (ks : List Kind) (m : Params × Bool) : Type 0 where
  pub commas : Commas ks
  pub read : (ps : Parameters syntax_trees) → ps.dots ≡ false → (ws : List Terminal) (c : Terminal) (zs : List Terminal) → kinds_at ws ≡ ks → c.what.kind ≡ kinds.Mark puncts.RightParenthesis → Reading g (grammar.more_parameters ps) (before_params ps.all m.0, m.1) (ws ++ c ∷ zs) (c ∷ zs)

pub no_more_parameters : (g : Context) → MoreParameters g [] (no_params, false)
no_more_parameters g = record {
  commas = no_comma;
  read = λ ps off ws c zs is k. moved g (grammar.more_parameters ps) (c ∷ zs) (ws ++ c ∷ zs) (c ∷ zs) (ap (λ w. w ++ c ∷ zs) (sym (none_left ws is)))
      (record { answer = ps; read = nothing g (grammar.more_parameters ps) c zs (subst (λ s. 13 < looseness s) (sym (closing_sort g c k)) (omega arith), outside_closing g c k); alike = ap₂ (λ u v. (u, v)) (no_param_behind ps.all) off });
}

pub dots_behind : (g : Context) → MoreParameters g (kinds.Mark puncts.Comma ∷ kinds.Mark puncts.Ellipsis ∷ []) (no_params, true)
dots_behind g = record {
  commas = a_comma (kinds.Mark puncts.Ellipsis ∷ []);
  read = λ ps off ws c zs is k.
      let h = head ws (kinds.Mark puncts.Comma) _ is in
      let i = head h.rest (kinds.Mark puncts.Ellipsis) [] h.rest_is in
      let whole : ws ++ c ∷ zs ≡ h.first ∷ i.first ∷ (c ∷ zs) = ap (λ v. v ++ c ∷ zs) h.whole ∙ ap (λ v. h.first ∷ (v ++ c ∷ zs)) i.whole ∙ ap (λ v. h.first ∷ i.first ∷ (v ++ c ∷ zs)) (none_left i.rest i.rest_is) in
      let dots = chosen g (grammar.behind_comma h.first ps) i.first (tokens.mark tokens.ellipsis) _ (c ∷ zs) (c ∷ zs) (grammar.with_dots ps h.first) (sort_at g.types i.first (kinds.Mark puncts.Ellipsis) i.first_is) refl (read_take refl read_done) in
      moved g (grammar.more_parameters ps) (h.first ∷ i.first ∷ (c ∷ zs)) (ws ++ c ∷ zs) (c ∷ zs) (sym whole)
      (record { answer = grammar.with_dots ps h.first; read = chosen g (grammar.more_parameters ps) h.first (tokens.mark tokens.comma) _ (i.first ∷ (c ∷ zs)) (c ∷ zs) _ (sort_at g.types h.first (kinds.Mark puncts.Comma) h.first_is) refl (read_take refl (join dots read_done)); alike = ap (λ u. (u, true)) (no_param_behind (make.settle_last h.first.what.place ps.all) ∙ settle_last_bare h.first.what.place ps.all no_params) });
}

-- a parameter, and those behind it
record Parameter_and (g : Context) (n : Param) (m : Params × Bool) (xs ys : List Terminal) : Type 0 where
  mid : List Terminal
  one : Reading g grammar.parameter n xs mid
  more : (ps : Parameters syntax_trees) → ps.dots ≡ false → Reading g (grammar.more_parameters ps) (before_params ps.all m.0, m.1) mid ys

parameter_and : (g : Context) (a b : List Kind) (n : Param) (m : Params × Bool) → Parameter g a n → MoreParameters g b m → (ws : List Terminal) (c : Terminal) (zs : List Terminal) → kinds_at ws ≡ a ++ b → c.what.kind ≡ kinds.Mark puncts.RightParenthesis → Parameter_and g n m (ws ++ c ∷ zs) (c ∷ zs)
parameter_and g a b one others p more ws c zs is k =
    let u = cut ws a b is in
    let n = next_of g IsOutside b u.right c zs more.commas ((refl, refl), refl) (outside_closing g c k) u.right_is in
    let r = p.read u.left n.first n.rest u.left_is n.holds in
    record {
      mid = n.first ∷ n.rest;
      one = moved g grammar.parameter (u.left ++ n.first ∷ n.rest) (ws ++ c ∷ zs) (n.first ∷ n.rest) (ap (λ v. u.left ++ v) (sym n.whole) ∙ sym (append_assoc u.left u.right (c ∷ zs)) ∙ ap (λ v. v ++ c ∷ zs) (sym u.whole)) r;
      more = λ ps off. moved g (grammar.more_parameters ps) (u.right ++ c ∷ zs) (n.first ∷ n.rest) (c ∷ zs) n.whole (more.read ps off u.right c zs u.right_is k);
    }

no_dots : (stores inside : Bool) (seen : Seen) (s : Sort) → is_some (add stores inside seen s) ≡ true → is_mark tokens.ellipsis s ≡ false
no_dots stores inside seen (tokens.mark tokens.ellipsis) e = absurd cc
no_dots stores inside seen _ e = refl

pub one_more_parameter : (g : Context) (a b : List Kind) (n : Param) (m : Params × Bool) → Parameter g a n → MoreParameters g b m → MoreParameters g (kinds.Mark puncts.Comma ∷ (a ++ b)) (next_param n m.0, m.1)
one_more_parameter g a b n m p more = record {
  commas = a_comma (a ++ b);
  read = λ ps off ws c zs is k.
      let h = head ws (kinds.Mark puncts.Comma) (a ++ b) is in
      let r = parameter_and g a b n m p more h.rest c zs h.rest_is k in
      let u = cut h.rest a b h.rest_is in
      let f = p.begins u.left (u.right ++ c ∷ zs) u.left_is in
      let whole : h.rest ++ c ∷ zs ≡ f.first ∷ f.rest = ap (λ v. v ++ c ∷ zs) u.whole ∙ append_assoc u.left u.right (c ∷ zs) ∙ f.whole in
      let q : Parameters syntax_trees = record { all = syntax_trees.next_parameter ps.all h.first r.one.answer.tree; dots = false; behind = r.one.answer.behind } in
      let s = r.more q refl in
      let behind = chosen g (grammar.behind_comma h.first ps) f.first (view g.types f.first.sort) _ f.rest (c ∷ zs) s.answer refl (if_false (is_mark tokens.ellipsis (view g.types f.first.sort)) _ _ (no_dots true g.inside nothing_seen (view g.types f.first.sort) f.holds)) (join (at_tokens whole r.one.read) (join s.read read_done)) in
      moved g (grammar.more_parameters ps) (h.first ∷ (h.rest ++ c ∷ zs)) (ws ++ c ∷ zs) (c ∷ zs) (ap (λ v. v ++ c ∷ zs) (sym h.whole))
      (record { answer = s.answer; read = chosen g (grammar.more_parameters ps) h.first (tokens.mark tokens.comma) _ (h.rest ++ c ∷ zs) (c ∷ zs) s.answer (sort_at g.types h.first (kinds.Mark puncts.Comma) h.first_is) refl (read_take refl (join (at_tokens (sym whole) behind) read_done)); alike = s.alike ∙ ap (λ u. (u, m.1)) (param_behind (make.settle_last h.first.what.place ps.all) r.one.answer.tree m.0 ∙ settle_last_bare h.first.what.place ps.all (next_param (bare_param r.one.answer.tree) m.0) ∙ ap (λ v. before_params ps.all (next_param v m.0)) r.one.alike) });
}

pub no_parameters : (g : Context) → Parametrising g [] (no_params, false)
no_parameters g = record {
  read = λ ws c zs is k. moved g grammar.parameters (c ∷ zs) (ws ++ c ∷ zs) (c ∷ zs) (ap (λ w. w ++ c ∷ zs) (sym (none_left ws is)))
      (record { answer = _; read = nothing g grammar.parameters c zs (subst (λ s. begins_specifiers true g.inside s ≡ false) (sym (closing_sort g c k)) refl, subst (λ s. 13 < looseness s) (sym (closing_sort g c k)) (omega arith), outside_closing g c k); alike = refl });
  begins = λ ws c zs is k. record { first = c; rest = zs; whole = ap (λ w. w ++ c ∷ zs) (none_left ws is); holds = ap is_parameters (closing_sort g c k) };
}

or_first : (a b : Bool) → a ≡ true → a || b ≡ true
or_first true b e = refl
or_first false b e = absurd cc

pub some_parameters : (g : Context) (a b : List Kind) (n : Param) (m : Params × Bool) → Parameter g a n → MoreParameters g b m → Parametrising g (a ++ b) (next_param n m.0, m.1)
some_parameters g a b n m p more = record {
  read = λ ws c zs is k.
      let r = parameter_and g a b n m p more ws c zs is k in
      let u = cut ws a b is in
      let f = p.begins u.left (u.right ++ c ∷ zs) u.left_is in
      let whole : ws ++ c ∷ zs ≡ f.first ∷ f.rest = ap (λ v. v ++ c ∷ zs) u.whole ∙ append_assoc u.left u.right (c ∷ zs) ∙ f.whole in
      let s = r.more (record { all = syntax_trees.first_parameter r.one.answer.tree; dots = false; behind = r.one.answer.behind }) refl in
      moved g grammar.parameters (f.first ∷ f.rest) (ws ++ c ∷ zs) (c ∷ zs) (sym whole)
      (record { answer = s.answer; read = chosen g grammar.parameters f.first (view g.types f.first.sort) _ f.rest (c ∷ zs) s.answer refl (if_true (begins_specifiers true g.inside (view g.types f.first.sort)) _ _ f.holds) (join (at_tokens whole r.one.read) (join s.read read_done)); alike = s.alike ∙ ap (λ v. (next_param v m.0, m.1)) r.one.alike });
  begins = λ ws c zs is k.
      let u = cut ws a b is in
      let f = p.begins u.left (u.right ++ c ∷ zs) u.left_is in
      record { first = f.first; rest = f.rest; whole = ap (λ v. v ++ c ∷ zs) u.whole ∙ append_assoc u.left u.right (c ∷ zs) ∙ f.whole; holds = or_first (is_specifier (view g.types f.first.sort)) _ (adds_specifier true g.inside nothing_seen (view g.types f.first.sort) f.holds) };
}
