-- What is made spells the tokens of its parts, each place that of its token: the base, and expressions.
use Rattle.std.proofs.Common.{◌≡◌, ℕ, ◌+◌, Bool, true, false, List, [], ◌∷◌, ◌++◌, length, map, ◌⊎◌, inl, inr, refl, sym, ap, ap₂, ◌∙◌, subst, arith}
use Rattle.std.specs.Prelude.{⊤, if◌then◌else◌}
use Rattle.std.proofs.lemmas.List.{append_assoc, map-append, length-map}
use mathlib.Core.Path.{fun_ext}
use Rattle.sp_tree.specs.declared.fault.Place.{Place}
use Rattle.sp_tree.specs.declared.token.Kind.{Kind}
use Rattle.sp_tree.specs.declared.token.Kind.TheVariants as kinds
use Rattle.sp_tree.specs.declared.token.Keyword.TheVariants as words
use Rattle.sp_tree.specs.declared.token.Punct.{Punct}
use Rattle.sp_tree.specs.declared.token.Punct.TheVariants as puncts
use Rattle.sp_parse_trees.specs.Syntax as syntax
use Rattle.sp_parse_trees.specs.Syntax.{Expression, expression}
use Rattle.sp_parse_trees.specs.Spelling.{tokens_of, expressions_tokens}
use Rattle.sp_parse_trees.specs.Places.{Placed, PlacedForm, PlacedAll, behind, place_of}
use Rattle.sp_parse_trees.specs.View as view
use Rattle.sp_parse_grammar.specs.CTokens as tokens
use Rattle.sp_parse_tokens.specs.Sorts.{Terminal}
use Rattle.sp_parse_tokens.specs.Makers as make
use Rattle.sp_parse_laws.specs.Spelled.{kinds_at, Agrees, Spelled}
use Rattle.sp_parse_laws.proofs.TokenKinds.{Of}

pub behind_behind : (a b c : ℕ) (at : ℕ → Place) → b + a ≡ c → behind a (behind b at) ≡ behind c at
behind_behind a b c at e = fun_ext (λ i. ap at (omega (arith, e)))

pub behind_zero : (at : ℕ → Place) → behind 0 at ≡ at
behind_zero at = fun_ext (λ i. ap at (omega arith))

pub split : (at : ℕ → Place) (us vs : List Terminal) → Agrees at (us ++ vs) → Agrees at us × Agrees (behind (length us) at) vs
split at [] vs h = (tt, subst (λ f. Agrees f vs) (sym (behind_zero at)) h)
split at (x ∷ us) vs h =
    let rest = split (behind 1 at) us vs h.1 in
    ((h.0, rest.0), subst (λ f. Agrees f vs) (behind_behind (length us) 1 (length (x ∷ us)) at (omega arith)) rest.1)

-- around a token
pub record Around (at : ℕ → Place) (us : List Terminal) (x : Terminal) (vs : List Terminal) (n : ℕ) : Type 0 where
  pub left : Agrees at us
  pub mark : x.what.place ≡ at n
  pub right : Agrees (behind (n + 1) at) vs

pub around : (at : ℕ → Place) (us : List Terminal) (x : Terminal) (vs : List Terminal) (n : ℕ) → n ≡ length us → Agrees at (us ++ x ∷ vs) → Around at us x vs n
around at us x vs n e h =
    let parts = split at us (x ∷ vs) h in
    record {
      left = parts.0;
      mark = parts.1.0 ∙ ap at (omega (arith, e));
      right = subst (λ f. Agrees f vs) (behind_behind 1 (length us) (n + 1) at (omega (arith, e))) parts.1.1;
    }

-- as many tokens as kinds
pub counted : {T : Type 0} {kinds_in : T → List Kind} {PlacedIn : (ℕ → Place) → T → Type 0} (ws : List Terminal) (t : T) → Spelled kinds_in PlacedIn ws t → length (kinds_in t) ≡ length ws
counted ws t s = ap length s.spells ∙ length-map ws (λ x. x.what.kind)

-- ---- expressions

abbrev pub SE : List Terminal → Expression → Type 0
SE ws e = Spelled tokens_of Placed ws e

pub placed_first : (at : ℕ → Place) (e : Expression) → Placed at e → place_of e ≡ at 0
placed_first at (expression f p m) h = h.0

pub name_back : (k : Kind) (n : ℕ) → k ≡ kinds.Name n → kinds.Name (make.number_of k) ≡ k
name_back k n e = subst (λ v. kinds.Name (make.number_of v) ≡ v) (sym e) refl

pub name_spelled : (x : Terminal) (n : ℕ) → x.what.kind ≡ kinds.Name n → SE (x ∷ []) (make.make_name x.what)
name_spelled x n e = record { spells = ap (λ k. k ∷ []) (name_back x.what.kind n e); places = λ at h. (h.0, h.0) }

pub mark_back : (k : Kind) (p : Punct) → k ≡ kinds.Mark p → kinds.Mark (make.punct_of k) ≡ k
mark_back k p e = subst (λ v. kinds.Mark (make.punct_of v) ≡ v) (sym e) refl

pub constant_spelled : (x : Terminal) → Of tokens.constant x.what.kind → SE (x ∷ []) (make.make_constant x.what)
constant_spelled x (inl (n, e)) = record { spells = subst (λ v. tokens_of (expression (make.constant_form v) x.what.place x.what.place) ≡ v ∷ []) (sym e) refl; places = λ at h. (h.0, subst (λ v. PlacedForm at x.what.place (make.constant_form v)) (sym e) h.0) }
constant_spelled x (inr (z, e)) = record { spells = subst (λ v. tokens_of (expression (make.constant_form v) x.what.place x.what.place) ≡ v ∷ []) (sym e) refl; places = λ at h. (h.0, subst (λ v. PlacedForm at x.what.place (make.constant_form v)) (sym e) h.0) }

-- string literals, one behind the other
abbrev pub AllTexts : List Terminal → Type 0
AllTexts [] = ⊤
AllTexts (x ∷ xs) = Of tokens.text x.what.kind × AllTexts xs

text_back : (k : Kind) → Of tokens.text k → kinds.Text (make.number_of k) ≡ k
text_back k (n, e) = subst (λ v. kinds.Text (make.number_of v) ≡ v) (sym e) refl

texts_back : (xs : List Terminal) → AllTexts xs → map (λ n. kinds.Text n) (map (λ x. make.number_of x.kind) (map (λ x. x.what) xs)) ≡ kinds_at xs
texts_back [] h = refl
texts_back (x ∷ xs) h = ap₂ (λ k ks. k ∷ ks) (text_back x.what.kind h.0) (texts_back xs h.1)

pub texts_spelled : (x : Terminal) (xs : List Terminal) → AllTexts (x ∷ xs) → SE (x ∷ xs) (make.make_texts (map (λ y. y.what) (x ∷ xs)))
texts_spelled x xs h = record { spells = texts_back (x ∷ xs) h; places = λ at a. (a.0, a.0) }

pub paren_spelled : (y : Terminal) (vs : List Terminal) (z : Terminal) (e : Expression) → y.what.kind ≡ kinds.Mark puncts.LeftParenthesis → SE vs e → z.what.kind ≡ kinds.Mark puncts.RightParenthesis → SE (y ∷ (vs ++ z ∷ [])) (make.leaf (syntax.paren e) y.what)
paren_spelled y vs z e k r c = record {
  spells = simp (map-append, r.spells, k, c) refl;
  places = λ at h. (h.0, (h.0, r.places _ (split _ vs (z ∷ []) h.1).0));
}

pub index_spelled : (us : List Terminal) (x : Terminal) (vs : List Terminal) (z : Terminal) (e i : Expression) → SE us e → x.what.kind ≡ kinds.Mark puncts.LeftBracket → SE vs i → z.what.kind ≡ kinds.Mark puncts.RightBracket
    → SE (us ++ x ∷ (vs ++ z ∷ [])) (make.behind (syntax.index e i) e x.what)
index_spelled us x vs z e i l k r c = record {
  spells = simp (map-append, append_assoc, l.spells, r.spells, k, c) refl;
  places = λ at h.
      let a = around at us x (vs ++ z ∷ []) (length (tokens_of e)) (counted us e l) h in
      (placed_first at e (l.places at a.left), (a.mark, l.places at a.left, r.places _ (split _ vs (z ∷ []) a.right).0));
}

-- the arguments of a call
abbrev pub SArgs : List Terminal → List Expression → Type 0
SArgs ws es = Spelled (λ fs. expressions_tokens [] (view.expressions fs)) (λ at fs. PlacedAll at (view.expressions fs)) ws es

pub call_spelled : (us : List Terminal) (x : Terminal) (vs : List Terminal) (z : Terminal) (e : Expression) (es : List Expression) → SE us e → x.what.kind ≡ kinds.Mark puncts.LeftParenthesis → SArgs vs es → z.what.kind ≡ kinds.Mark puncts.RightParenthesis
    → SE (us ++ x ∷ (vs ++ z ∷ [])) (make.behind (syntax.call e (view.expressions es)) e x.what)
call_spelled us x vs z e es l k r c = record {
  spells = simp (map-append, append_assoc, l.spells, r.spells, k, c) refl;
  places = λ at h.
      let a = around at us x (vs ++ z ∷ []) (length (tokens_of e)) (counted us e l) h in
      (placed_first at e (l.places at a.left), (a.mark, l.places at a.left, r.places _ (split _ vs (z ∷ []) a.right).0));
}

member_by : (us : List Terminal) (x z : Terminal) (e : Expression) (n : ℕ) → SE us e → z.what.kind ≡ kinds.Name n → (p : Punct) → x.what.kind ≡ kinds.Mark p → (b : Bool)
    → kinds.Mark (if b then puncts.Arrow else puncts.Dot) ≡ kinds.Mark p → SE (us ++ x ∷ z ∷ []) (make.behind (if b then syntax.arrow e (make.number_of z.what.kind) else syntax.member e (make.number_of z.what.kind)) e x.what)
member_by us x z e n l j p k true same = record {
  spells = simp (map-append, l.spells, same, k, name_back z.what.kind n j) refl;
  places = λ at h.
      let a = around at us x (z ∷ []) (length (tokens_of e)) (counted us e l) h in
      (placed_first at e (l.places at a.left), (a.mark, l.places at a.left));
}
member_by us x z e n l j p k false same = record {
  spells = simp (map-append, l.spells, same, k, name_back z.what.kind n j) refl;
  places = λ at h.
      let a = around at us x (z ∷ []) (length (tokens_of e)) (counted us e l) h in
      (placed_first at e (l.places at a.left), (a.mark, l.places at a.left));
}

arrow_is : (k : Kind) (p : Punct) → k ≡ kinds.Mark p → (p ≡ puncts.Dot) ⊎ (p ≡ puncts.Arrow) → kinds.Mark (if make.is_arrow k then puncts.Arrow else puncts.Dot) ≡ kinds.Mark p
arrow_is k p e (inl d) = subst (λ v. kinds.Mark (if make.is_arrow v then puncts.Arrow else puncts.Dot) ≡ kinds.Mark p) (sym e) (subst (λ v. kinds.Mark (if make.is_arrow (kinds.Mark v) then puncts.Arrow else puncts.Dot) ≡ kinds.Mark v) (sym d) refl)
arrow_is k p e (inr d) = subst (λ v. kinds.Mark (if make.is_arrow v then puncts.Arrow else puncts.Dot) ≡ kinds.Mark p) (sym e) (subst (λ v. kinds.Mark (if make.is_arrow (kinds.Mark v) then puncts.Arrow else puncts.Dot) ≡ kinds.Mark v) (sym d) refl)

pub member_spelled : (us : List Terminal) (x z : Terminal) (e : Expression) (n : ℕ) → SE us e → Of (tokens.mark tokens.member) x.what.kind → z.what.kind ≡ kinds.Name n → SE (us ++ x ∷ z ∷ []) (make.make_member e x.what z.what)
member_spelled us x z e n l (p, k, which) j = member_by us x z e n l j p k (make.is_arrow x.what.kind) (arrow_is x.what.kind p k which)

pub after_spelled : (us : List Terminal) (x : Terminal) (e : Expression) (p : Punct) → SE us e → x.what.kind ≡ kinds.Mark p → SE (us ++ x ∷ []) (make.behind (syntax.after (make.punct_of x.what.kind) e) e x.what)
after_spelled us x e p l k = record {
  spells = simp (map-append, l.spells, mark_back x.what.kind p k) refl;
  places = λ at h.
      let a = around at us x [] (length (tokens_of e)) (counted us e l) h in
      (placed_first at e (l.places at a.left), (a.mark, l.places at a.left));
}

pub prefix_spelled : (x : Terminal) (vs : List Terminal) (e : Expression) (p : Punct) → x.what.kind ≡ kinds.Mark p → SE vs e → SE (x ∷ vs) (make.leaf (syntax.unary (make.punct_of x.what.kind) e) x.what)
prefix_spelled x vs e p k r = record {
  spells = ap₂ (λ v w. v ∷ w) (mark_back x.what.kind p k) r.spells;
  places = λ at h. (h.0, (h.0, r.places _ h.1));
}

pub sizeof_spelled : (x : Terminal) (vs : List Terminal) (e : Expression) → x.what.kind ≡ kinds.Word words.Sizeof → SE vs e → SE (x ∷ vs) (make.leaf (syntax.sizeof_expr e) x.what)
sizeof_spelled x vs e k r = record {
  spells = ap₂ (λ v w. v ∷ w) (sym k) r.spells;
  places = λ at h. (h.0, (h.0, r.places _ h.1));
}

pub binary_spelled : (us : List Terminal) (x : Terminal) (vs : List Terminal) (l r : Expression) (p : Punct) → SE us l → x.what.kind ≡ kinds.Mark p → SE vs r → SE (us ++ x ∷ vs) (make.behind (syntax.binary (make.punct_of x.what.kind) l r) l x.what)
binary_spelled us x vs l r p left k right = record {
  spells = simp (map-append, left.spells, right.spells, mark_back x.what.kind p k) refl;
  places = λ at h.
      let a = around at us x vs (length (tokens_of l)) (counted us l left) h in
      (placed_first at l (left.places at a.left), (a.mark, left.places at a.left, right.places _ a.right));
}

pub assign_spelled : (us : List Terminal) (x : Terminal) (vs : List Terminal) (l r : Expression) (p : Punct) → SE us l → x.what.kind ≡ kinds.Mark p → SE vs r → SE (us ++ x ∷ vs) (make.behind (syntax.assign (make.punct_of x.what.kind) l r) l x.what)
assign_spelled us x vs l r p left k right = record {
  spells = simp (map-append, left.spells, right.spells, mark_back x.what.kind p k) refl;
  places = λ at h.
      let a = around at us x vs (length (tokens_of l)) (counted us l left) h in
      (placed_first at l (left.places at a.left), (a.mark, left.places at a.left, right.places _ a.right));
}

pub comma_spelled : (us : List Terminal) (x : Terminal) (vs : List Terminal) (l r : Expression) → SE us l → x.what.kind ≡ kinds.Mark puncts.Comma → SE vs r → SE (us ++ x ∷ vs) (make.behind (syntax.comma l r) l x.what)
comma_spelled us x vs l r left k right = record {
  spells = simp (map-append, left.spells, right.spells, k) refl;
  places = λ at h.
      let a = around at us x vs (length (tokens_of l)) (counted us l left) h in
      (placed_first at l (left.places at a.left), (a.mark, left.places at a.left, right.places _ a.right));
}

pub choice_spelled : (us : List Terminal) (x : Terminal) (vs : List Terminal) (y : Terminal) (ws : List Terminal) (c l r : Expression) → SE us c → x.what.kind ≡ kinds.Mark puncts.Question → SE vs l → y.what.kind ≡ kinds.Mark puncts.Colon → SE ws r
    → SE (us ++ x ∷ (vs ++ y ∷ ws)) (make.behind (syntax.choice c l r) c x.what)
choice_spelled us x vs y ws c l r first k left j right = record {
  spells = simp (map-append, append_assoc, first.spells, left.spells, right.spells, k, j) refl;
  places = λ at h.
      let a = around at us x (vs ++ y ∷ ws) (length (tokens_of c)) (counted us c first) h in
      let b = around (behind (length (tokens_of c) + 1) at) vs y ws (length (tokens_of l)) (counted vs l left) a.right in
      (placed_first at c (first.places at a.left), (a.mark, first.places at a.left, left.places _ b.left, right.places _ b.right));
}

-- a list with a first part
abbrev pub HasSome : {A : Type 0} → List A → Type 0
HasSome [] = ⊥
HasSome (x ∷ xs) = ⊤
