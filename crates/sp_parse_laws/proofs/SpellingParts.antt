-- Specifiers, declarators, type names, initialisers and declarations spell the tokens of their parts.
use Rattle.std.proofs.Common.{◌≡◌, ℕ, ◌+◌, Bool, true, false, ◌⊎◌, inl, inr, List, [], ◌∷◌, ◌++◌, length, Option, Some, None, refl, sym, ap, ap₂, ◌∙◌, subst, arith, length-append}
use Rattle.std.specs.Prelude.{if◌then◌else◌}
use Rattle.std.proofs.lemmas.List.{append_assoc, append-nil, map-append}
use Rattle.sp_tree.specs.declared.fault.Place.{Place}
use Rattle.sp_tree.specs.declared.token.Keyword.{Keyword}
use Rattle.sp_tree.specs.declared.token.Keyword.TheVariants as words
use Rattle.sp_tree.specs.declared.token.Kind.{Kind}
use Rattle.sp_tree.specs.declared.token.Kind.TheVariants as kinds
use Rattle.sp_tree.specs.declared.token.Punct.TheVariants as puncts
use Rattle.sp_parse_trees.specs.Words.{is_storage, is_qualifier}
use Rattle.sp_parse_trees.specs.Syntax as syntax
use Rattle.sp_parse_trees.specs.Syntax.{Expression, Specifier, Declarator, DeclaratorForm, declarator, Param, param, TypeName, type_name, Init, InitDeclarator, Declaration}
use Rattle.sp_parse_trees.specs.Spelling.{maybe_tokens, specifier_tokens, enumerators_tokens}
use Rattle.sp_parse_trees.specs.Places.{Placed, PlacedMaybe, PlacedSpecifier, PlacedDeclarations, PlacedEnumerators, behind}
use Rattle.sp_parse_trees.specs.View as view
use Rattle.sp_parse_grammar.specs.CTokens as tokens
use Rattle.sp_parse_tokens.specs.Sorts.{Terminal}
use Rattle.sp_parse_tokens.specs.Makers as make
use Rattle.sp_parse_laws.proofs.TokenKinds.{Of}
use Rattle.sp_parse_laws.specs.Spelled.{Spelled}
use Rattle.sp_parse_laws.proofs.Spelling.{SE, HasSome, behind_behind, behind_zero, split, around, counted, name_back}
use Rattle.sp_parse_laws.proofs.SpellingLists.{SDeclarations, spec_tokens, PlacedSpec}

-- ---- parts that may be missing

abbrev pub SMaybe : List Kind → ℕ → List Terminal → Option Expression → Type 0
SMaybe b n ws v = Spelled (λ o. maybe_tokens b (view.maybe_expression o)) (λ at o. PlacedMaybe (behind n at) (view.maybe_expression o)) ws v

pub maybe_none : (b : List Kind) (n : ℕ) → SMaybe b n [] None
maybe_none b n = record { spells = refl; places = λ at h. tt }

pub maybe_some : (ws : List Terminal) (e : Expression) → SE ws e → SMaybe [] 0 ws (Some e)
maybe_some ws e s = record { spells = s.spells; places = λ at h. subst (λ v. Placed v e) (sym (behind_zero at)) (s.places at h) }

pub value_some : (x : Terminal) (ws : List Terminal) (e : Expression) → x.what.kind ≡ kinds.Mark puncts.Assign → SE ws e → SMaybe (kinds.Mark puncts.Assign ∷ []) 1 (x ∷ ws) (Some e)
value_some x ws e k s = record { spells = ap₂ (λ v w. v ∷ w) (sym k) s.spells; places = λ at h. s.places (behind 1 at) h.1 }

-- ---- specifiers

abbrev pub SSpec : List Terminal → make.SpecifierAt → Type 0
SSpec ws s = Spelled spec_tokens PlacedSpec ws s

word_tokens : (k : Keyword) (a b : Bool) → specifier_tokens (if a then syntax.storage k else if b then syntax.qualifier k else syntax.basic k) ≡ kinds.Word k ∷ []
word_tokens k true b = refl
word_tokens k false true = refl
word_tokens k false false = refl

word_placed : (at : ℕ → Place) (k : Keyword) (a b : Bool) → PlacedSpecifier at (if a then syntax.storage k else if b then syntax.qualifier k else syntax.basic k)
word_placed at k true b = tt
word_placed at k false true = tt
word_placed at k false false = tt

pub word_spelled : (x : Terminal) (k : Keyword) → x.what.kind ≡ kinds.Word k → SSpec (x ∷ []) (make.make_word x.what)
word_spelled x k e = record {
  spells = subst (λ v. specifier_tokens (make.specifier_of v) ≡ v ∷ []) (sym e) (word_tokens k (is_storage k) (is_qualifier k));
  places = λ at h. subst (λ v. PlacedSpecifier at (make.specifier_of v)) (sym e) (word_placed at k (is_storage k) (is_qualifier k));
}

pub named_spelled : (x : Terminal) (n : ℕ) → x.what.kind ≡ kinds.Name n → SSpec (x ∷ []) (make.make_word x.what)
named_spelled x n e = record {
  spells = subst (λ v. specifier_tokens (make.specifier_of v) ≡ v ∷ []) (sym e) refl;
  places = λ at h. subst (λ v. PlacedSpecifier at (make.specifier_of v)) (sym e) tt;
}

union_back : (k : Kind) (w : Keyword) → k ≡ kinds.Word w → (w ≡ words.Struct) ⊎ (w ≡ words.Union) → kinds.Word (if make.is_union k then words.Union else words.Struct) ≡ k
union_back k w e (inl d) = subst (λ v. kinds.Word (if make.is_union v then words.Union else words.Struct) ≡ v) (sym e) (subst (λ v. kinds.Word (if make.is_union (kinds.Word v) then words.Union else words.Struct) ≡ kinds.Word v) (sym d) refl)
union_back k w e (inr d) = subst (λ v. kinds.Word (if make.is_union v then words.Union else words.Struct) ≡ v) (sym e) (subst (λ v. kinds.Word (if make.is_union (kinds.Word v) then words.Union else words.Struct) ≡ kinds.Word v) (sym d) refl)

structure_word : (y : Terminal) → Of (tokens.mark tokens.struct) y.what.kind → kinds.Word (if make.is_union y.what.kind then words.Union else words.Struct) ≡ y.what.kind
structure_word y (w, e, which) = union_back y.what.kind w e which

pub tagged_spelled : (y z : Terminal) (n : ℕ) → Of (tokens.mark tokens.struct) y.what.kind → z.what.kind ≡ kinds.Name n → SSpec (y ∷ z ∷ []) (make.make_structure y.what (Some z.what) None)
tagged_spelled y z n k j = record {
  spells = ap₂ (λ v w. v ∷ w ∷ []) (structure_word y k) (name_back z.what.kind n j);
  places = λ at h. (h.0, tt);
}

pub body_spelled : (y x : Terminal) (vs : List Terminal) (w : Terminal) (ds : List Declaration) → Of (tokens.mark tokens.struct) y.what.kind → x.what.kind ≡ kinds.Mark puncts.LeftBrace → SDeclarations vs ds → w.what.kind ≡ kinds.Mark puncts.RightBrace
    → SSpec (y ∷ x ∷ (vs ++ w ∷ [])) (make.make_structure y.what None (Some ds))
body_spelled y x vs w ds k j r c = record {
  spells = simp (map-append, structure_word y k, r.spells, j, c) refl;
  places = λ at h. (h.0, subst (λ v. PlacedDeclarations v (view.declarations ds)) (sym (behind_behind 1 0 1 (behind 1 at) refl)) (r.places _ (split _ vs (w ∷ []) h.1.1).0));
}

pub tagged_body_spelled : (y z x : Terminal) (vs : List Terminal) (w : Terminal) (ds : List Declaration) (n : ℕ) → Of (tokens.mark tokens.struct) y.what.kind → z.what.kind ≡ kinds.Name n → x.what.kind ≡ kinds.Mark puncts.LeftBrace → SDeclarations vs ds → w.what.kind ≡ kinds.Mark puncts.RightBrace
    → SSpec (y ∷ z ∷ x ∷ (vs ++ w ∷ [])) (make.make_structure y.what (Some z.what) (Some ds))
tagged_body_spelled y z x vs w ds n k m j r c = record {
  spells = simp (map-append, structure_word y k, name_back z.what.kind n m, r.spells, j, c) refl;
  places = λ at h. (h.0, r.places _ (split _ vs (w ∷ []) h.1.1.1).0);
}

-- ---- enumerations

abbrev pub enumerator_tokens : make.Enumerator → List Kind
enumerator_tokens e = kinds.Name e.name ∷ maybe_tokens (kinds.Mark puncts.Assign ∷ []) (view.maybe_expression e.value)

abbrev pub PlacedEnumerator : (ℕ → Place) → make.Enumerator → Type 0
PlacedEnumerator at e = (e.place ≡ at 0) × PlacedMaybe (behind 2 at) (view.maybe_expression e.value)

abbrev pub SEnumerator : List Terminal → make.Enumerator → Type 0
SEnumerator ws e = Spelled enumerator_tokens PlacedEnumerator ws e

abbrev pub SEnumerators : List Terminal → List make.Enumerator → Type 0
SEnumerators ws es = Spelled (λ fs. enumerators_tokens [] (make.all_enumerators fs)) (λ at fs. PlacedEnumerators at (make.all_enumerators fs)) ws es

pub enumerator_spelled : (x : Terminal) (ws : List Terminal) (n : ℕ) (v : Option Expression) → x.what.kind ≡ kinds.Name n → SMaybe (kinds.Mark puncts.Assign ∷ []) 1 ws v → SEnumerator (x ∷ ws) (make.make_enumerator x.what v)
enumerator_spelled x ws n v k s = record {
  spells = ap₂ (λ a b. a ∷ b) (name_back x.what.kind n k) s.spells;
  places = λ at h. (h.0, subst (λ f. PlacedMaybe f (view.maybe_expression v)) (behind_behind 1 1 2 at refl) (s.places (behind 1 at) h.1));
}

pub enumerators_one : (ws : List Terminal) (e : make.Enumerator) → SEnumerator ws e → SEnumerators ws (e ∷ [])
enumerators_one ws e s = record { spells = append-nil (enumerator_tokens e) ∙ s.spells; places = λ at h. let p = s.places at h in (p.0, p.1, tt) }

enumerators_spell : (b : List Kind) (es : List make.Enumerator) (e : make.Enumerator) → HasSome es → enumerators_tokens b (make.all_enumerators (es ++ e ∷ [])) ≡ enumerators_tokens b (make.all_enumerators es) ++ kinds.Mark puncts.Comma ∷ enumerator_tokens e
enumerators_spell b [] e h = elim h [ ]
enumerators_spell b (f ∷ []) e h = simp (append_assoc, append-nil) refl
enumerators_spell b (f ∷ g ∷ es) e h = ap (λ v. b ++ enumerator_tokens f ++ v) (enumerators_spell (kinds.Mark puncts.Comma ∷ []) (g ∷ es) e tt) ∙ sym (append_assoc (b ++ enumerator_tokens f) (enumerators_tokens (kinds.Mark puncts.Comma ∷ []) (make.all_enumerators (g ∷ es))) (kinds.Mark puncts.Comma ∷ enumerator_tokens e))

enumerators_length : (es : List make.Enumerator) → HasSome es → length (enumerators_tokens (kinds.Mark puncts.Comma ∷ []) (make.all_enumerators es)) ≡ 1 + length (enumerators_tokens [] (make.all_enumerators es))
enumerators_length [] h = elim h [ ]
enumerators_length (f ∷ es) h = omega arith

enumerators_places : (at : ℕ → Place) (es : List make.Enumerator) (e : make.Enumerator) → HasSome es → PlacedEnumerators at (make.all_enumerators es) → PlacedEnumerator (behind (length (enumerators_tokens [] (make.all_enumerators es)) + 1) at) e → PlacedEnumerators at (make.all_enumerators (es ++ e ∷ []))
enumerators_places at [] e h p q = elim h [ ]
enumerators_places at (f ∷ []) e h p q =
    let tail = maybe_tokens (kinds.Mark puncts.Assign ∷ []) (view.maybe_expression f.value) in
    let size : 1 + (length tail + 1) ≡ length (enumerators_tokens [] (make.all_enumerators (f ∷ []))) + 1 = omega (arith, ap length (append-nil tail)) in
    let there = subst (λ v. PlacedEnumerator v e) (sym (behind_behind (length tail + 1) 1 _ at size)) q in
    (p.0, p.1, (there.0, there.1, tt))
enumerators_places at (f ∷ g ∷ es) e h p q =
    let tail = maybe_tokens (kinds.Mark puncts.Assign ∷ []) (view.maybe_expression f.value) in
    let m = length (enumerators_tokens [] (make.all_enumerators (g ∷ es))) + 1 in
    let size : 1 + (length tail + 1 + m) ≡ length (enumerators_tokens [] (make.all_enumerators (f ∷ g ∷ es))) + 1 = omega (arith, length-append tail (enumerators_tokens (kinds.Mark puncts.Comma ∷ []) (make.all_enumerators (g ∷ es))), enumerators_length (g ∷ es) tt) in
    let outer = subst (λ v. PlacedEnumerator v e) (sym (behind_behind (length tail + 1 + m) 1 _ at size)) q in
    (p.0, p.1, enumerators_places (behind (length tail + 1) (behind 1 at)) (g ∷ es) e tt p.2 (subst (λ v. PlacedEnumerator v e) (sym (behind_behind m (length tail + 1) (length tail + 1 + m) (behind 1 at) refl)) outer))

pub enumerators_more : (us : List Terminal) (x : Terminal) (vs : List Terminal) (es : List make.Enumerator) (e : make.Enumerator) → HasSome es → SEnumerators us es → x.what.kind ≡ kinds.Mark puncts.Comma → SEnumerator vs e → SEnumerators (us ++ x ∷ vs) (es ++ e ∷ [])
enumerators_more us x vs es e some l k r = record {
  spells = enumerators_spell [] es e some ∙ simp (map-append, l.spells, r.spells, k) refl;
  places = λ at h.
      let a = around at us x vs (length (enumerators_tokens [] (make.all_enumerators es))) (counted us es l) h in
      enumerators_places at es e some (l.places at a.left) (r.places _ a.right);
}

pub enum_tagged_spelled : (y z : Terminal) (n : ℕ) → y.what.kind ≡ kinds.Word words.Enum → z.what.kind ≡ kinds.Name n → SSpec (y ∷ z ∷ []) (make.make_enumeration y.what (Some z.what) None)
enum_tagged_spelled y z n k j = record {
  spells = ap₂ (λ v w. v ∷ w ∷ []) (sym k) (name_back z.what.kind n j);
  places = λ at h. (h.0, tt);
}

pub enum_body_spelled : (y x : Terminal) (vs : List Terminal) (w : Terminal) (es : List make.Enumerator) → y.what.kind ≡ kinds.Word words.Enum → x.what.kind ≡ kinds.Mark puncts.LeftBrace → SEnumerators vs es → w.what.kind ≡ kinds.Mark puncts.RightBrace
    → SSpec (y ∷ x ∷ (vs ++ w ∷ [])) (make.make_enumeration y.what None (Some es))
enum_body_spelled y x vs w es k j r c = record {
  spells = simp (map-append, k, r.spells, j, c) refl;
  places = λ at h. (h.0, subst (λ v. PlacedEnumerators v (make.all_enumerators es)) (sym (behind_behind 1 0 1 (behind 1 at) refl)) (r.places _ (split _ vs (w ∷ []) h.1.1).0));
}

pub enum_tagged_body_spelled : (y z x : Terminal) (vs : List Terminal) (w : Terminal) (es : List make.Enumerator) (n : ℕ) → y.what.kind ≡ kinds.Word words.Enum → z.what.kind ≡ kinds.Name n → x.what.kind ≡ kinds.Mark puncts.LeftBrace → SEnumerators vs es → w.what.kind ≡ kinds.Mark puncts.RightBrace
    → SSpec (y ∷ z ∷ x ∷ (vs ++ w ∷ [])) (make.make_enumeration y.what (Some z.what) (Some es))
enum_tagged_body_spelled y z x vs w es n k m j r c = record {
  spells = simp (map-append, k, name_back z.what.kind n m, r.spells, j, c) refl;
  places = λ at h. (h.0, r.places _ (split _ vs (w ∷ []) h.1.1.1).0);
}
