-- Declarators, type names, parameters, initialisers and declarations spell the tokens of their parts; what is pending at the end
-- of a part is settled by the token behind it.
use Rattle.std.proofs.Common.{◌≡◌, ℕ, ◌+◌, Bool, true, false, List, [], ◌∷◌, ◌++◌, length, map, Option, Some, None, refl, sym, ap, ap₂, ◌∙◌, subst, arith, length-append}
use Rattle.std.specs.Prelude.{⊤, if◌then◌else◌, is_some}
use Rattle.std.proofs.lemmas.List.{append_assoc, append-nil, map-append, length-map}
use Rattle.sp_tree.specs.declared.fault.Place.{Place}
use Rattle.sp_tree.specs.declared.token.Keyword.TheVariants as words
use Rattle.sp_tree.specs.declared.token.Kind.{Kind}
use Rattle.sp_tree.specs.declared.token.Kind.TheVariants as kinds
use Rattle.sp_tree.specs.declared.token.Punct.TheVariants as puncts
use Rattle.sp_parse_trees.specs.Syntax as syntax
use Rattle.sp_parse_trees.specs.Syntax.{Expression, Declarator, DeclaratorForm, declarator, Param, param, TypeName, type_name, Init, InitDeclarator, Declaration}
use Rattle.sp_parse_trees.specs.Spelling.{specifiers_tokens, declarator_tokens, declarator_form_tokens, param_tokens, params_tokens, dots_tokens, type_name_tokens, init_tokens, inits_tokens, maybe_init_tokens, item_tokens, declaration_tokens}
use Rattle.sp_parse_trees.specs.Places.{PlacedMaybe, PlacedSpecifiers, PlacedDeclarator, PlacedParam, PlacedParams, PlacedTypeName, PlacedInit, PlacedInits, PlacedStart, PlacedItem, PlacedDeclaration, behind, declarator_place}
use Rattle.sp_parse_trees.specs.Levels.{declared_name, form_name}
use Rattle.sp_parse_trees.specs.View as view
use Rattle.sp_parse_grammar.specs.CTokens as tokens
use Rattle.sp_parse_grammar.specs.CTable.{Parameters, AlsoAllowed, without_parameters}
use Rattle.sp_parse_tokens.specs.Sorts.{Terminal}
use Rattle.sp_parse_tokens.specs.SyntaxTrees.{syntax_trees}
use Rattle.sp_parse_tokens.specs.Makers as make
use Rattle.sp_parse_laws.proofs.TokenKinds.{Of}
use Rattle.sp_parse_laws.specs.Spelled.{Agrees, Spelled, kinds_at}
use Rattle.sp_parse_laws.proofs.Spelling.{SE, Around, HasSome, behind_behind, behind_zero, split, around, counted, name_back}
use Rattle.sp_parse_laws.proofs.SpellingLists.{SSpecs, SInits, SItems, params_spell, params_places}
use Rattle.sp_parse_laws.proofs.SpellingParts.{SMaybe}

-- the tree spells the tokens; each place in it is that of its token, once the token behind it settles it
pub record Pending {T : Type 0} (kinds_in : T → List Kind) (PlacedIn : (ℕ → Place) → T → Type 0) (settle : Place → T → T) (ws : List Terminal) (t : T) : Type 0 where
  pub spells : kinds_in t ≡ kinds_at ws
  pub places : (at : ℕ → Place) (p : Place) → Agrees at ws → at (length ws) ≡ p → PlacedIn at (settle p t)

abbrev pub SD : List Terminal → Declarator → Type 0
SD ws d = Pending declarator_tokens PlacedDeclarator make.settle ws d

-- ---- settling changes no token

mutual
  pub settle_tokens : (p : Place) (d : Declarator) → declarator_tokens (make.settle p d) ≡ declarator_tokens d
  settle_tokens p (declarator f q) = settle_form_tokens p q f

  settle_form_tokens : (p q : Place) (f : DeclaratorForm) → declarator_tokens (make.settle_form p q f) ≡ declarator_form_tokens f
  settle_form_tokens p q syntax.absent = refl
  settle_form_tokens p q (syntax.declared n) = refl
  settle_form_tokens p q (syntax.group d) = refl
  settle_form_tokens p q (syntax.pointer ks d) = ap (λ v. kinds.Mark puncts.Star ∷ map (λ k. kinds.Word k) ks ++ v) (settle_tokens p d)
  settle_form_tokens p q (syntax.array d e) = refl
  settle_form_tokens p q (syntax.function d ps dots) = refl

pub settle_param_tokens : (p : Place) (x : Param) → param_tokens (make.settle_param p x) ≡ param_tokens x
settle_param_tokens p (param ss d) = ap (λ v. specifiers_tokens ss ++ v) (settle_tokens p d)

pub settle_type_tokens : (p : Place) (x : TypeName) → type_name_tokens (make.settle_type p x) ≡ type_name_tokens x
settle_type_tokens p (type_name ss d) = ap (λ v. specifiers_tokens ss ++ v) (settle_tokens p d)

pub settle_last_tokens : (p : Place) (b : List Kind) (ps : List Param) → params_tokens b (view.params (make.settle_last p ps)) ≡ params_tokens b (view.params ps)
settle_last_tokens p b [] = refl
settle_last_tokens p b (x ∷ []) = ap (λ v. b ++ v ++ []) (settle_param_tokens p x)
settle_last_tokens p b (x ∷ y ∷ ys) = ap (λ v. b ++ param_tokens x ++ v) (settle_last_tokens p (kinds.Mark puncts.Comma ∷ []) (y ∷ ys))

-- a declarator of a name has nothing pending
mutual
  pub settled : (p : Place) (d : Declarator) → is_some (declared_name d) ≡ true → make.settle p d ≡ d
  settled p (declarator f q) e = settled_form p q f e

  settled_form : (p q : Place) (f : DeclaratorForm) → is_some (form_name f) ≡ true → make.settle_form p q f ≡ declarator f q
  settled_form p q syntax.absent e = absurd cc
  settled_form p q (syntax.declared n) e = refl
  settled_form p q (syntax.group d) e = refl
  settled_form p q (syntax.pointer ks d) e = ap (λ v. declarator (syntax.pointer ks v) q) (settled p d e)
  settled_form p q (syntax.array d n) e = refl
  settled_form p q (syntax.function d ps dots) e = refl

-- settling keeps the name
mutual
  pub settle_name : (p : Place) (d : Declarator) → declared_name (make.settle p d) ≡ declared_name d
  settle_name p (declarator f q) = settle_form_name p q f

  settle_form_name : (p q : Place) (f : DeclaratorForm) → declared_name (make.settle_form p q f) ≡ form_name f
  settle_form_name p q syntax.absent = refl
  settle_form_name p q (syntax.declared n) = refl
  settle_form_name p q (syntax.group d) = refl
  settle_form_name p q (syntax.pointer ks d) = settle_name p d
  settle_form_name p q (syntax.array d e) = refl
  settle_form_name p q (syntax.function d ps dots) = refl

-- before a token it is settled
pub before : (at : ℕ → Place) (us : List Terminal) (x : Terminal) (vs : List Terminal) (n : ℕ) → n ≡ length us → (a : Around at us x vs n) → at (length us) ≡ x.what.place
before at us x vs n e a = ap at (sym e) ∙ sym a.mark

pub pending_counted : {T : Type 0} {kinds_in : T → List Kind} {PlacedIn : (ℕ → Place) → T → Type 0} {settle : Place → T → T} (ws : List Terminal) (t : T) → Pending kinds_in PlacedIn settle ws t → length (kinds_in t) ≡ length ws
pending_counted ws t s = ap length s.spells ∙ length-map ws (λ x. x.what.kind)

declarator_first : (at : ℕ → Place) (d : Declarator) → PlacedDeclarator at d → declarator_place d ≡ at 0
declarator_first at (declarator f p) h = h.0

-- ---- declarators

pub absent_spelled : SD [] make.make_absent
absent_spelled = record { spells = refl; places = λ at p h e. (sym e, tt) }

pub named_declarator_spelled : (x : Terminal) (n : ℕ) → x.what.kind ≡ kinds.Name n → SD (x ∷ []) (make.make_named x.what)
named_declarator_spelled x n k = record { spells = ap (λ v. v ∷ []) (name_back x.what.kind n k); places = λ at p h e. (h.0, tt) }

pub group_spelled : (y : Terminal) (vs : List Terminal) (z : Terminal) (d : Declarator) → y.what.kind ≡ kinds.Mark puncts.LeftParenthesis → SD vs d → z.what.kind ≡ kinds.Mark puncts.RightParenthesis → SD (y ∷ (vs ++ z ∷ [])) (make.make_group y.what d z.what)
group_spelled y vs z d k r c = record {
  spells = simp (map-append, settle_tokens z.what.place d, r.spells, k, c) refl;
  places = λ at p h e.
      let a = around (behind 1 at) vs z [] (length vs) refl h.1 in
      (h.0, r.places (behind 1 at) z.what.place a.left (before (behind 1 at) vs z [] (length vs) refl a));
}

-- qualifiers behind a star
abbrev pub AllQualifiers : List Terminal → Type 0
AllQualifiers [] = ⊤
AllQualifiers (x ∷ xs) = Of tokens.qualifier x.what.kind × AllQualifiers xs

qualifier_back : (k : Kind) → Of tokens.qualifier k → kinds.Word (make.keyword_of k) ≡ k
qualifier_back k (w, e, r, q) = subst (λ v. kinds.Word (make.keyword_of v) ≡ v) (sym e) refl

qualifiers_back : (xs : List Terminal) → AllQualifiers xs → map (λ k. kinds.Word k) (map (λ x. make.keyword_of x.kind) (map (λ x. x.what) xs)) ≡ kinds_at xs
qualifiers_back [] h = refl
qualifiers_back (x ∷ xs) h = ap₂ (λ k ks. k ∷ ks) (qualifier_back x.what.kind h.0) (qualifiers_back xs h.1)

pub pointer_spelled : (x : Terminal) (qs vs : List Terminal) (d : Declarator) → x.what.kind ≡ kinds.Mark puncts.Star → AllQualifiers qs → SD vs d → SD (x ∷ (qs ++ vs)) (make.make_pointer x.what (map (λ q. q.what) qs) d)
pointer_spelled x qs vs d k q r = record {
  spells = simp (map-append, qualifiers_back qs q, r.spells, k) refl;
  places = λ at p h e.
      let a = split (behind 1 at) qs vs h.1 in
      let size : length (map (λ y. make.keyword_of y.kind) (map (λ y. y.what) qs)) ≡ length qs = length-map (map (λ y. y.what) qs) (λ y. make.keyword_of y.kind) ∙ length-map qs (λ y. y.what) in
      let place = behind_behind (length qs) 1 (1 + length (map (λ y. make.keyword_of y.kind) (map (λ y. y.what) qs))) at (omega (arith, size)) in
      let next : behind (1 + length (map (λ y. make.keyword_of y.kind) (map (λ y. y.what) qs))) at (length vs) ≡ p = ap at (omega (arith, size, length-append qs vs)) ∙ e in
      (h.0, r.places _ p (subst (λ f. Agrees f vs) place a.1) next);
}

pub array_spelled : (us : List Terminal) (x : Terminal) (vs : List Terminal) (z : Terminal) (d : Declarator) (n : Option Expression) → SD us d → x.what.kind ≡ kinds.Mark puncts.LeftBracket → SMaybe [] 0 vs n → z.what.kind ≡ kinds.Mark puncts.RightBracket
    → SD (us ++ x ∷ (vs ++ z ∷ [])) (make.make_array d x.what n)
array_spelled us x vs z d n l k r c = record {
  spells = simp (map-append, append_assoc, settle_tokens x.what.place d, l.spells, r.spells, k, c) refl;
  places = λ at p h e.
      let count = ap length (settle_tokens x.what.place d) ∙ pending_counted us d l in
      let a = around at us x (vs ++ z ∷ []) (length (declarator_tokens (make.settle x.what.place d))) count h in
      let there = l.places at x.what.place a.left (before at us x (vs ++ z ∷ []) _ count a) in
      let length_there = r.places _ (split _ vs (z ∷ []) a.right).0 in
      (declarator_first at (make.settle x.what.place d) there, (there, subst (λ v. PlacedMaybe v (view.maybe_expression n)) (behind_zero (behind (length (declarator_tokens (make.settle x.what.place d)) + 1) at)) length_there));
}

-- ---- parameters

abbrev pub SParam : List Terminal → Param → Type 0
SParam ws p = Pending param_tokens PlacedParam make.settle_param ws p

-- the parameters before this place
abbrev pub params_before : Place → Parameters syntax_trees → syntax.Params
params_before p ps = view.params (if ps.dots then ps.all else make.settle_last p ps.all)

pub record SParameters (ws : List Terminal) (ps : Parameters syntax_trees) : Type 0 where
  pub spells : params_tokens [] (view.params ps.all) ++ dots_tokens ps.dots ≡ kinds_at ws
  pub places : (at : ℕ → Place) (p : Place) → Agrees at ws → at (length ws) ≡ p → PlacedParams at (params_before p ps)

before_tokens : (p : Place) (b : Bool) (ps : List Param) → params_tokens [] (view.params (if b then ps else make.settle_last p ps)) ≡ params_tokens [] (view.params ps)
before_tokens p true ps = refl
before_tokens p false ps = settle_last_tokens p [] ps

pub function_spelled : (us : List Terminal) (x : Terminal) (vs : List Terminal) (z : Terminal) (d : Declarator) (ps : Parameters syntax_trees) → SD us d → x.what.kind ≡ kinds.Mark puncts.LeftParenthesis → SParameters vs ps → z.what.kind ≡ kinds.Mark puncts.RightParenthesis
    → SD (us ++ x ∷ (vs ++ z ∷ [])) (make.make_function d x.what ps.all ps.dots z.what)
function_spelled us x vs z d ps l k r c = record {
  spells = simp (map-append, append_assoc, settle_tokens x.what.place d, before_tokens z.what.place ps.dots ps.all, l.spells, k, c) (ap (λ v. kinds_at us ++ kinds.Mark puncts.LeftParenthesis ∷ v) (sym (append_assoc (params_tokens [] (view.params ps.all)) (dots_tokens ps.dots) (kinds.Mark puncts.RightParenthesis ∷ [])) ∙ ap (λ v. v ++ kinds.Mark puncts.RightParenthesis ∷ []) r.spells));
  places = λ at p h e.
      let count = ap length (settle_tokens x.what.place d) ∙ pending_counted us d l in
      let a = around at us x (vs ++ z ∷ []) (length (declarator_tokens (make.settle x.what.place d))) count h in
      let there = l.places at x.what.place a.left (before at us x (vs ++ z ∷ []) _ count a) in
      let b = around (behind (length (declarator_tokens (make.settle x.what.place d)) + 1) at) vs z [] (length vs) refl a.right in
      (declarator_first at (make.settle x.what.place d) there, (there, r.places _ z.what.place b.left (before _ vs z [] (length vs) refl b)));
}

pub no_parameters_spelled : SParameters [] without_parameters
no_parameters_spelled = record { spells = refl; places = λ at p h e. tt }

pub first_parameter_spelled : (ws : List Terminal) (x : Param) (b : AlsoAllowed) → SParam ws x → SParameters ws (record { all = x ∷ []; dots = false; behind = b })
first_parameter_spelled ws x b s = record { spells = append-nil (param_tokens x ++ []) ∙ append-nil (param_tokens x) ∙ s.spells; places = λ at p h e. (s.places at p h e, tt) }

last_more : (p : Place) (ps : List Param) (x : Param) → make.settle_last p (ps ++ x ∷ []) ≡ ps ++ make.settle_param p x ∷ []
last_more p [] x = refl
last_more p (y ∷ []) x = refl
last_more p (y ∷ z ∷ zs) x = ap (λ v. y ∷ v) (last_more p (z ∷ zs) x)

some_last : (p : Place) (ps : List Param) → HasSome ps → HasSome (make.settle_last p ps)
some_last p [] h = elim h [ ]
some_last p (x ∷ []) h = tt
some_last p (x ∷ y ∷ ys) h = tt

without_dots : (ps : Parameters syntax_trees) → ps.dots ≡ false → params_tokens [] (view.params ps.all) ++ dots_tokens ps.dots ≡ params_tokens [] (view.params ps.all)
without_dots ps e = ap (λ b. params_tokens [] (view.params ps.all) ++ dots_tokens b) e ∙ append-nil (params_tokens [] (view.params ps.all))

-- the parameters before a comma
before_comma : (at : ℕ → Place) (us : List Terminal) (x : Terminal) (vs : List Terminal) (ps : Parameters syntax_trees) → ps.dots ≡ false → SParameters us ps → Agrees at (us ++ x ∷ vs)
    → (a : Around at us x vs (length (params_tokens [] (view.params (make.settle_last x.what.place ps.all))))) × PlacedParams at (view.params (make.settle_last x.what.place ps.all))
before_comma at us x vs ps none l h =
    let count = ap length (settle_last_tokens x.what.place [] ps.all ∙ sym (without_dots ps none) ∙ l.spells) ∙ length-map us (λ y. y.what.kind) in
    let a = around at us x vs (length (params_tokens [] (view.params (make.settle_last x.what.place ps.all)))) count h in
    (a, subst (λ b. PlacedParams at (view.params (if b then ps.all else make.settle_last x.what.place ps.all))) none (l.places at x.what.place a.left (before at us x vs _ count a)))

pub next_parameter_spelled : (us : List Terminal) (x : Terminal) (vs : List Terminal) (ps : Parameters syntax_trees) (q : Param) (b : AlsoAllowed) → HasSome ps.all → ps.dots ≡ false → SParameters us ps → x.what.kind ≡ kinds.Mark puncts.Comma → SParam vs q
    → SParameters (us ++ x ∷ vs) (record { all = make.settle_last x.what.place ps.all ++ q ∷ []; dots = false; behind = b })
next_parameter_spelled us x vs ps q b some none l k r = record {
  spells = append-nil (params_tokens [] (view.params (make.settle_last x.what.place ps.all ++ q ∷ []))) ∙ params_spell [] (make.settle_last x.what.place ps.all) q (some_last x.what.place ps.all some)
      ∙ simp (map-append, settle_last_tokens x.what.place [] ps.all, sym (without_dots ps none) ∙ l.spells, r.spells, k) refl;
  places = λ at p h e.
      let c = before_comma at us x vs ps none l h in
      let n = length (params_tokens [] (view.params (make.settle_last x.what.place ps.all))) in
      let size : n ≡ length us = ap length (settle_last_tokens x.what.place [] ps.all ∙ sym (without_dots ps none) ∙ l.spells) ∙ length-map us (λ y. y.what.kind) in
      let next : behind (n + 1) at (length vs) ≡ p = ap at (omega (arith, size, length-append us (x ∷ vs))) ∙ e in
      subst (λ v. PlacedParams at (view.params v)) (sym (last_more p (make.settle_last x.what.place ps.all) q)) (params_places at (make.settle_last x.what.place ps.all) (make.settle_param p q) (some_last x.what.place ps.all some) c.1 (r.places _ p c.0.right next));
}

pub dots_spelled : (us : List Terminal) (x y : Terminal) (ps : Parameters syntax_trees) (b : AlsoAllowed) → ps.dots ≡ false → SParameters us ps → x.what.kind ≡ kinds.Mark puncts.Comma → y.what.kind ≡ kinds.Mark puncts.Ellipsis
    → SParameters (us ++ x ∷ y ∷ []) (record { all = make.settle_last x.what.place ps.all; dots = true; behind = b })
dots_spelled us x y ps b none l k j = record {
  spells = simp (map-append, settle_last_tokens x.what.place [] ps.all, sym (without_dots ps none) ∙ l.spells, k, j) refl;
  places = λ at p h e. (before_comma at us x (y ∷ []) ps none l h).1;
}

-- specifiers and a declarator behind them
behind_specifiers : (at : ℕ → Place) (us vs : List Terminal) (ss : List make.SpecifierAt) (d : Declarator) (p : Place) → SSpecs us ss → SD vs d → Agrees at (us ++ vs) → at (length (us ++ vs)) ≡ p
    → PlacedSpecifiers at (make.all_specifiers ss) × PlacedDeclarator (behind (length (specifiers_tokens (make.all_specifiers ss))) at) (make.settle p d)
behind_specifiers at us vs ss d p l r h e =
    let a = split at us vs h in
    let n = length (specifiers_tokens (make.all_specifiers ss)) in
    let size : n ≡ length us = counted us ss l in
    let next : behind n at (length vs) ≡ p = ap at (omega (arith, size, length-append us vs)) ∙ e in
    (l.places at a.0, r.places _ p (subst (λ m. Agrees (behind m at) vs) (sym size) a.1) next)

pub parameter_spelled : (us vs : List Terminal) (ss : List make.SpecifierAt) (d : Declarator) → SSpecs us ss → SD vs d → SParam (us ++ vs) (param (make.all_specifiers ss) d)
parameter_spelled us vs ss d l r = record {
  spells = simp (map-append, l.spells, r.spells) refl;
  places = λ at p h e. behind_specifiers at us vs ss d p l r h e;
}

abbrev pub STypeName : List Terminal → TypeName → Type 0
STypeName ws n = Pending type_name_tokens PlacedTypeName make.settle_type ws n

pub type_name_spelled : (us vs : List Terminal) (ss : List make.SpecifierAt) (d : Declarator) → SSpecs us ss → SD vs d → STypeName (us ++ vs) (type_name (make.all_specifiers ss) d)
type_name_spelled us vs ss d l r = record {
  spells = simp (map-append, l.spells, r.spells) refl;
  places = λ at p h e. behind_specifiers at us vs ss d p l r h e;
}

-- casts and sizes of types
pub cast_spelled : (y : Terminal) (us : List Terminal) (z : Terminal) (vs : List Terminal) (n : TypeName) (e : Expression) → y.what.kind ≡ kinds.Mark puncts.LeftParenthesis → STypeName us n → z.what.kind ≡ kinds.Mark puncts.RightParenthesis → SE vs e
    → SE (y ∷ (us ++ z ∷ vs)) (make.leaf (syntax.cast (make.settle_type z.what.place n) e) y.what)
cast_spelled y us z vs n e k l c r = record {
  spells = simp (map-append, settle_type_tokens z.what.place n, l.spells, r.spells, k, c) refl;
  places = λ at h.
      let count = ap length (settle_type_tokens z.what.place n) ∙ pending_counted us n l in
      let a = around (behind 1 at) us z vs (length (type_name_tokens (make.settle_type z.what.place n))) count h.1 in
      (h.0, (h.0, l.places (behind 1 at) z.what.place a.left (before (behind 1 at) us z vs _ count a), r.places _ a.right));
}

pub sizeof_type_spelled : (y x : Terminal) (us : List Terminal) (z : Terminal) (n : TypeName) → y.what.kind ≡ kinds.Word words.Sizeof → x.what.kind ≡ kinds.Mark puncts.LeftParenthesis → STypeName us n → z.what.kind ≡ kinds.Mark puncts.RightParenthesis
    → SE (y ∷ x ∷ (us ++ z ∷ [])) (make.leaf (syntax.sizeof_type (make.settle_type z.what.place n)) y.what)
sizeof_type_spelled y x us z n k j l c = record {
  spells = simp (map-append, settle_type_tokens z.what.place n, l.spells, k, j, c) refl;
  places = λ at h.
      let there = subst (λ f. Agrees f (us ++ z ∷ [])) (behind_behind 1 1 2 at refl) h.1.1 in
      let a = around (behind 2 at) us z [] (length us) refl there in
      (h.0, (h.0, l.places (behind 2 at) z.what.place a.left (before (behind 2 at) us z [] (length us) refl a)));
}

-- ---- initialisers and declarations

abbrev pub SInit : List Terminal → Init → Type 0
SInit ws i = Spelled init_tokens PlacedInit ws i

pub single_spelled : (ws : List Terminal) (e : Expression) → SE ws e → SInit ws (syntax.one e)
single_spelled ws e s = record { spells = s.spells; places = λ at h. s.places at h }

-- initialisers, with a comma at their end or without
abbrev pub list_tokens : List Init → Bool → List Kind
list_tokens is b = inits_tokens [] (view.inits is) ++ (if b then kinds.Mark puncts.Comma ∷ [] else [])

pub record SList (ws : List Terminal) (is : List Init) (b : Bool) : Type 0 where
  pub spells : list_tokens is b ≡ kinds_at ws
  pub places : (at : ℕ → Place) → Agrees at ws → PlacedInits at (view.inits is)

pub list_ends : (ws : List Terminal) (is : List Init) → SInits ws is → SList ws is false
list_ends ws is s = record { spells = append-nil (inits_tokens [] (view.inits is)) ∙ s.spells; places = λ at h. s.places at h }

pub comma_ends : (ws : List Terminal) (c : Terminal) (is : List Init) → SInits ws is → c.what.kind ≡ kinds.Mark puncts.Comma → SList (ws ++ c ∷ []) is true
comma_ends ws c is s k = record { spells = simp (map-append, s.spells, k) refl; places = λ at h. s.places at (split at ws (c ∷ []) h).0 }

pub listed_spelled : (x : Terminal) (vs : List Terminal) (z : Terminal) (is : List Init) (b : Bool) → x.what.kind ≡ kinds.Mark puncts.LeftBrace → SList vs is b → z.what.kind ≡ kinds.Mark puncts.RightBrace → SInit (x ∷ (vs ++ z ∷ [])) (syntax.list (view.inits is) b)
listed_spelled x vs z is b k s c = record {
  spells = ap₂ (λ v w. v ∷ w) (sym k) (ap₂ (λ v w. v ++ w ∷ []) s.spells (sym c)) ∙ sym (map-append (λ y. y.what.kind) (x ∷ vs) (z ∷ []));
  places = λ at h. s.places _ (split _ vs (z ∷ []) h.1).0;
}

abbrev pub SStart : List Terminal → Option Init → Type 0
SStart ws v = Spelled (λ o. maybe_init_tokens (make.some_init o)) (λ at o. PlacedStart at (make.some_init o)) ws v

pub start_none : SStart [] None
start_none = record { spells = refl; places = λ at h. tt }

pub start_some : (x : Terminal) (ws : List Terminal) (i : Init) → x.what.kind ≡ kinds.Mark puncts.Assign → SInit ws i → SStart (x ∷ ws) (Some i)
start_some x ws i k s = record { spells = ap₂ (λ v w. v ∷ w) (sym k) s.spells; places = λ at h. s.places _ h.1 }

abbrev pub SItem : List Terminal → InitDeclarator → Type 0
SItem ws i = Spelled item_tokens PlacedItem ws i

pub item_spelled : (us vs : List Terminal) (d : Declarator) (v : Option Init) → SD us d → is_some (declared_name d) ≡ true → SStart vs v → SItem (us ++ vs) (make.make_item d v)
item_spelled us vs d v l named r = record {
  spells = simp (map-append, l.spells, r.spells) refl;
  places = λ at h.
      let a = split at us vs h in
      (subst (λ w. PlacedDeclarator at w) (settled (at (length us)) d named) (l.places at (at (length us)) a.0 refl), r.places _ (subst (λ n. Agrees (behind n at) vs) (sym (pending_counted us d l)) a.1));
}

abbrev pub SDeclaration : List Terminal → Declaration → Type 0
SDeclaration ws d = Spelled declaration_tokens PlacedDeclaration ws d

-- the first specifier stands at the first token
abbrev pub FirstAt : (ℕ → Place) → List make.SpecifierAt → Type 0
FirstAt at [] = ⊥
FirstAt at (s ∷ ss) = s.place ≡ at 0

first_place : (at : ℕ → Place) (ss : List make.SpecifierAt) → FirstAt at ss → make.place_of_first ss ≡ at 0
first_place at [] h = elim h [ ]
first_place at (s ∷ ss) h = h

pub declaration_spelled : (us vs : List Terminal) (z : Terminal) (ss : List make.SpecifierAt) (is : List InitDeclarator) → SSpecs us ss → ((at : ℕ → Place) → Agrees at us → FirstAt at ss) → SItems vs is → z.what.kind ≡ kinds.Mark puncts.Semicolon
    → SDeclaration (us ++ (vs ++ z ∷ [])) (make.make_declaration ss is)
declaration_spelled us vs z ss is l first r c = record {
  spells = simp (map-append, append_assoc, l.spells, r.spells, c) refl;
  places = λ at h.
      let a = split at us (vs ++ z ∷ []) h in
      let b = split _ vs (z ∷ []) a.1 in
      (first_place at ss (first at a.0), l.places at a.0, r.places _ (subst (λ n. Agrees (behind n at) vs) (sym (counted us ss l)) b.0));
}
