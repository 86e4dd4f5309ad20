-- Lists of parts spell the tokens of their parts, with or without commas between them.
use Rattle.std.proofs.Common.{◌≡◌, ℕ, ◌+◌, List, [], ◌∷◌, ◌++◌, length, refl, sym, ap, ◌∙◌, subst, arith, length-append}
use Rattle.std.proofs.lemmas.List.{append_assoc, append-nil, map-append}
use Rattle.sp_tree.specs.declared.fault.Place.{Place}
use Rattle.sp_tree.specs.declared.token.Kind.{Kind}
use Rattle.sp_tree.specs.declared.token.Kind.TheVariants as kinds
use Rattle.sp_tree.specs.declared.token.Punct.TheVariants as puncts
use Rattle.sp_parse_trees.specs.Syntax.{Expression, Param, Init, InitDeclarator, Declaration, Statement}
use Rattle.sp_parse_trees.specs.Spelling.{tokens_of, expressions_tokens, specifier_tokens, specifiers_tokens, param_tokens, params_tokens, init_tokens, inits_tokens, item_tokens, items_tokens, declaration_tokens, declarations_tokens, statement_tokens, statements_tokens}
use Rattle.sp_parse_trees.specs.Places.{Placed, PlacedAll, PlacedSpecifier, PlacedSpecifiers, PlacedParam, PlacedParams, PlacedInit, PlacedInits, PlacedItem, PlacedItems, PlacedDeclaration, PlacedDeclarations, PlacedStatement, PlacedStatements, behind}
use Rattle.sp_parse_trees.specs.View as view
use Rattle.sp_parse_tokens.specs.Sorts.{Terminal}
use Rattle.sp_parse_tokens.specs.Makers as make
use Rattle.sp_parse_laws.specs.Spelled.{Agrees, Spelled}
use Rattle.sp_parse_laws.proofs.Spelling.{SArgs, HasSome, behind_behind, behind_zero, split, around, counted}

abbrev pub spec_tokens : make.SpecifierAt → List Kind
spec_tokens s = specifier_tokens s.tree

abbrev pub PlacedSpec : (ℕ → Place) → make.SpecifierAt → Type 0
PlacedSpec at s = PlacedSpecifier at s.tree

-- ---- arguments

pub args_one : (ws : List Terminal) (e : Expression) → Spelled tokens_of Placed ws e → SArgs ws (e ∷ [])
args_one ws e s = record { spells = append-nil (tokens_of e) ∙ s.spells; places = λ at h. (s.places at h, tt) }

pub args_spell : (b : List Kind) (es : List Expression) (e : Expression) → HasSome es → expressions_tokens b (view.expressions (es ++ e ∷ [])) ≡ expressions_tokens b (view.expressions es) ++ kinds.Mark puncts.Comma ∷ tokens_of e
args_spell b [] e h = elim h [ ]
args_spell b (f ∷ []) e h = simp (append_assoc, append-nil) refl
args_spell b (f ∷ g ∷ es) e h = ap (λ v. b ++ tokens_of f ++ v) (args_spell (kinds.Mark puncts.Comma ∷ []) (g ∷ es) e tt) ∙ sym (append_assoc (b ++ tokens_of f) (expressions_tokens (kinds.Mark puncts.Comma ∷ []) (view.expressions (g ∷ es))) (kinds.Mark puncts.Comma ∷ tokens_of e))

args_length : (es : List Expression) → HasSome es → length (expressions_tokens (kinds.Mark puncts.Comma ∷ []) (view.expressions es)) ≡ 1 + length (expressions_tokens [] (view.expressions es))
args_length [] h = elim h [ ]
args_length (f ∷ es) h = omega arith

pub args_places : (at : ℕ → Place) (es : List Expression) (e : Expression) → HasSome es → PlacedAll at (view.expressions es) → Placed (behind (length (expressions_tokens [] (view.expressions es)) + 1) at) e → PlacedAll at (view.expressions (es ++ e ∷ []))
args_places at [] e h p q = elim h [ ]
args_places at (f ∷ []) e h p q = (p.0, (subst (λ n. Placed (behind (n + 1) at) e) (ap length (append-nil (tokens_of f))) q, tt))
args_places at (f ∷ g ∷ es) e h p q =
    let n = length (tokens_of f) + 1 in
    let m = length (expressions_tokens [] (view.expressions (g ∷ es))) + 1 in
    let size : n + m ≡ length (expressions_tokens [] (view.expressions (f ∷ g ∷ es))) + 1 = omega (arith, length-append (tokens_of f) (expressions_tokens (kinds.Mark puncts.Comma ∷ []) (view.expressions (g ∷ es))), args_length (g ∷ es) tt) in
    (p.0, args_places (behind n at) (g ∷ es) e tt p.1 (subst (λ v. Placed v e) (sym (behind_behind m n (length (expressions_tokens [] (view.expressions (f ∷ g ∷ es))) + 1) at size)) q))

pub args_more : (us : List Terminal) (x : Terminal) (vs : List Terminal) (es : List Expression) (e : Expression) → HasSome es → SArgs us es → x.what.kind ≡ kinds.Mark puncts.Comma → Spelled tokens_of Placed vs e → SArgs (us ++ x ∷ vs) (es ++ e ∷ [])
args_more us x vs es e some l k r = record {
  spells = args_spell [] es e some ∙ simp (map-append, l.spells, r.spells, k) refl;
  places = λ at h.
      let a = around at us x vs (length (expressions_tokens [] (view.expressions es))) (counted us es l) h in
      args_places at es e some (l.places at a.left) (r.places _ a.right);
}

-- ---- parameters, each settled

abbrev pub SParams : List Terminal → List Param → Type 0
SParams ws es = Spelled (λ fs. params_tokens [] (view.params fs)) (λ at fs. PlacedParams at (view.params fs)) ws es

pub params_spell : (b : List Kind) (es : List Param) (e : Param) → HasSome es → params_tokens b (view.params (es ++ e ∷ [])) ≡ params_tokens b (view.params es) ++ kinds.Mark puncts.Comma ∷ param_tokens e
params_spell b [] e h = elim h [ ]
params_spell b (f ∷ []) e h = simp (append_assoc, append-nil) refl
params_spell b (f ∷ g ∷ es) e h = ap (λ v. b ++ param_tokens f ++ v) (params_spell (kinds.Mark puncts.Comma ∷ []) (g ∷ es) e tt) ∙ sym (append_assoc (b ++ param_tokens f) (params_tokens (kinds.Mark puncts.Comma ∷ []) (view.params (g ∷ es))) (kinds.Mark puncts.Comma ∷ param_tokens e))

params_length : (es : List Param) → HasSome es → length (params_tokens (kinds.Mark puncts.Comma ∷ []) (view.params es)) ≡ 1 + length (params_tokens [] (view.params es))
params_length [] h = elim h [ ]
params_length (f ∷ es) h = omega arith

pub params_places : (at : ℕ → Place) (es : List Param) (e : Param) → HasSome es → PlacedParams at (view.params es) → PlacedParam (behind (length (params_tokens [] (view.params es)) + 1) at) e → PlacedParams at (view.params (es ++ e ∷ []))
params_places at [] e h p q = elim h [ ]
params_places at (f ∷ []) e h p q = (p.0, (subst (λ n. PlacedParam (behind (n + 1) at) e) (ap length (append-nil (param_tokens f))) q, tt))
params_places at (f ∷ g ∷ es) e h p q =
    let n = length (param_tokens f) + 1 in
    let m = length (params_tokens [] (view.params (g ∷ es))) + 1 in
    let size : n + m ≡ length (params_tokens [] (view.params (f ∷ g ∷ es))) + 1 = omega (arith, length-append (param_tokens f) (params_tokens (kinds.Mark puncts.Comma ∷ []) (view.params (g ∷ es))), params_length (g ∷ es) tt) in
    (p.0, params_places (behind n at) (g ∷ es) e tt p.1 (subst (λ v. PlacedParam v e) (sym (behind_behind m n (length (params_tokens [] (view.params (f ∷ g ∷ es))) + 1) at size)) q))

pub params_more : (us : List Terminal) (x : Terminal) (vs : List Terminal) (es : List Param) (e : Param) → HasSome es → SParams us es → x.what.kind ≡ kinds.Mark puncts.Comma → Spelled param_tokens PlacedParam vs e → SParams (us ++ x ∷ vs) (es ++ e ∷ [])
params_more us x vs es e some l k r = record {
  spells = params_spell [] es e some ∙ simp (map-append, l.spells, r.spells, k) refl;
  places = λ at h.
      let a = around at us x vs (length (params_tokens [] (view.params es))) (counted us es l) h in
      params_places at es e some (l.places at a.left) (r.places _ a.right);
}

-- ---- initialisers

abbrev pub SInits : List Terminal → List Init → Type 0
SInits ws es = Spelled (λ fs. inits_tokens [] (view.inits fs)) (λ at fs. PlacedInits at (view.inits fs)) ws es

pub inits_one : (ws : List Terminal) (e : Init) → Spelled init_tokens PlacedInit ws e → SInits ws (e ∷ [])
inits_one ws e s = record { spells = append-nil (init_tokens e) ∙ s.spells; places = λ at h. (s.places at h, tt) }

pub inits_spell : (b : List Kind) (es : List Init) (e : Init) → HasSome es → inits_tokens b (view.inits (es ++ e ∷ [])) ≡ inits_tokens b (view.inits es) ++ kinds.Mark puncts.Comma ∷ init_tokens e
inits_spell b [] e h = elim h [ ]
inits_spell b (f ∷ []) e h = simp (append_assoc, append-nil) refl
inits_spell b (f ∷ g ∷ es) e h = ap (λ v. b ++ init_tokens f ++ v) (inits_spell (kinds.Mark puncts.Comma ∷ []) (g ∷ es) e tt) ∙ sym (append_assoc (b ++ init_tokens f) (inits_tokens (kinds.Mark puncts.Comma ∷ []) (view.inits (g ∷ es))) (kinds.Mark puncts.Comma ∷ init_tokens e))

inits_length : (es : List Init) → HasSome es → length (inits_tokens (kinds.Mark puncts.Comma ∷ []) (view.inits es)) ≡ 1 + length (inits_tokens [] (view.inits es))
inits_length [] h = elim h [ ]
inits_length (f ∷ es) h = omega arith

pub inits_places : (at : ℕ → Place) (es : List Init) (e : Init) → HasSome es → PlacedInits at (view.inits es) → PlacedInit (behind (length (inits_tokens [] (view.inits es)) + 1) at) e → PlacedInits at (view.inits (es ++ e ∷ []))
inits_places at [] e h p q = elim h [ ]
inits_places at (f ∷ []) e h p q = (p.0, (subst (λ n. PlacedInit (behind (n + 1) at) e) (ap length (append-nil (init_tokens f))) q, tt))
inits_places at (f ∷ g ∷ es) e h p q =
    let n = length (init_tokens f) + 1 in
    let m = length (inits_tokens [] (view.inits (g ∷ es))) + 1 in
    let size : n + m ≡ length (inits_tokens [] (view.inits (f ∷ g ∷ es))) + 1 = omega (arith, length-append (init_tokens f) (inits_tokens (kinds.Mark puncts.Comma ∷ []) (view.inits (g ∷ es))), inits_length (g ∷ es) tt) in
    (p.0, inits_places (behind n at) (g ∷ es) e tt p.1 (subst (λ v. PlacedInit v e) (sym (behind_behind m n (length (inits_tokens [] (view.inits (f ∷ g ∷ es))) + 1) at size)) q))

pub inits_more : (us : List Terminal) (x : Terminal) (vs : List Terminal) (es : List Init) (e : Init) → HasSome es → SInits us es → x.what.kind ≡ kinds.Mark puncts.Comma → Spelled init_tokens PlacedInit vs e → SInits (us ++ x ∷ vs) (es ++ e ∷ [])
inits_more us x vs es e some l k r = record {
  spells = inits_spell [] es e some ∙ simp (map-append, l.spells, r.spells, k) refl;
  places = λ at h.
      let a = around at us x vs (length (inits_tokens [] (view.inits es))) (counted us es l) h in
      inits_places at es e some (l.places at a.left) (r.places _ a.right);
}

-- ---- declarators with their initialisers

abbrev pub SItems : List Terminal → List InitDeclarator → Type 0
SItems ws es = Spelled (λ fs. items_tokens [] (make.all_items fs)) (λ at fs. PlacedItems at (make.all_items fs)) ws es

pub items_one : (ws : List Terminal) (e : InitDeclarator) → Spelled item_tokens PlacedItem ws e → SItems ws (e ∷ [])
items_one ws e s = record { spells = append-nil (item_tokens e) ∙ s.spells; places = λ at h. (s.places at h, tt) }

pub items_spell : (b : List Kind) (es : List InitDeclarator) (e : InitDeclarator) → HasSome es → items_tokens b (make.all_items (es ++ e ∷ [])) ≡ items_tokens b (make.all_items es) ++ kinds.Mark puncts.Comma ∷ item_tokens e
items_spell b [] e h = elim h [ ]
items_spell b (f ∷ []) e h = simp (append_assoc, append-nil) refl
items_spell b (f ∷ g ∷ es) e h = ap (λ v. b ++ item_tokens f ++ v) (items_spell (kinds.Mark puncts.Comma ∷ []) (g ∷ es) e tt) ∙ sym (append_assoc (b ++ item_tokens f) (items_tokens (kinds.Mark puncts.Comma ∷ []) (make.all_items (g ∷ es))) (kinds.Mark puncts.Comma ∷ item_tokens e))

items_length : (es : List InitDeclarator) → HasSome es → length (items_tokens (kinds.Mark puncts.Comma ∷ []) (make.all_items es)) ≡ 1 + length (items_tokens [] (make.all_items es))
items_length [] h = elim h [ ]
items_length (f ∷ es) h = omega arith

pub items_places : (at : ℕ → Place) (es : List InitDeclarator) (e : InitDeclarator) → HasSome es → PlacedItems at (make.all_items es) → PlacedItem (behind (length (items_tokens [] (make.all_items es)) + 1) at) e → PlacedItems at (make.all_items (es ++ e ∷ []))
items_places at [] e h p q = elim h [ ]
items_places at (f ∷ []) e h p q = (p.0, (subst (λ n. PlacedItem (behind (n + 1) at) e) (ap length (append-nil (item_tokens f))) q, tt))
items_places at (f ∷ g ∷ es) e h p q =
    let n = length (item_tokens f) + 1 in
    let m = length (items_tokens [] (make.all_items (g ∷ es))) + 1 in
    let size : n + m ≡ length (items_tokens [] (make.all_items (f ∷ g ∷ es))) + 1 = omega (arith, length-append (item_tokens f) (items_tokens (kinds.Mark puncts.Comma ∷ []) (make.all_items (g ∷ es))), items_length (g ∷ es) tt) in
    (p.0, items_places (behind n at) (g ∷ es) e tt p.1 (subst (λ v. PlacedItem v e) (sym (behind_behind m n (length (items_tokens [] (make.all_items (f ∷ g ∷ es))) + 1) at size)) q))

pub items_more : (us : List Terminal) (x : Terminal) (vs : List Terminal) (es : List InitDeclarator) (e : InitDeclarator) → HasSome es → SItems us es → x.what.kind ≡ kinds.Mark puncts.Comma → Spelled item_tokens PlacedItem vs e → SItems (us ++ x ∷ vs) (es ++ e ∷ [])
items_more us x vs es e some l k r = record {
  spells = items_spell [] es e some ∙ simp (map-append, l.spells, r.spells, k) refl;
  places = λ at h.
      let a = around at us x vs (length (items_tokens [] (make.all_items es))) (counted us es l) h in
      items_places at es e some (l.places at a.left) (r.places _ a.right);
}

-- ---- specifiers

abbrev pub SSpecs : List Terminal → List make.SpecifierAt → Type 0
SSpecs ws es = Spelled (λ fs. specifiers_tokens (make.all_specifiers fs)) (λ at fs. PlacedSpecifiers at (make.all_specifiers fs)) ws es

pub specs_none : SSpecs [] []
specs_none = record { spells = refl; places = λ at h. tt }

pub specs_spell : (es : List make.SpecifierAt) (e : make.SpecifierAt) → specifiers_tokens (make.all_specifiers (es ++ e ∷ [])) ≡ specifiers_tokens (make.all_specifiers es) ++ spec_tokens e
specs_spell [] e = append-nil (spec_tokens e)
specs_spell (f ∷ es) e = ap (λ v. spec_tokens f ++ v) (specs_spell es e) ∙ sym (append_assoc (spec_tokens f) (specifiers_tokens (make.all_specifiers es)) (spec_tokens e))

pub specs_places : (at : ℕ → Place) (es : List make.SpecifierAt) (e : make.SpecifierAt) → PlacedSpecifiers at (make.all_specifiers es) → PlacedSpec (behind (length (specifiers_tokens (make.all_specifiers es))) at) e → PlacedSpecifiers at (make.all_specifiers (es ++ e ∷ []))
specs_places at [] e p q = (subst (λ v. PlacedSpec v e) (behind_zero at) q, tt)
specs_places at (f ∷ es) e p q =
    let size : length (spec_tokens f) + length (specifiers_tokens (make.all_specifiers es)) ≡ length (specifiers_tokens (make.all_specifiers (f ∷ es))) = sym (length-append (spec_tokens f) (specifiers_tokens (make.all_specifiers es))) in
    (p.0, specs_places (behind (length (spec_tokens f)) at) es e p.1 (subst (λ v. PlacedSpec v e) (sym (behind_behind (length (specifiers_tokens (make.all_specifiers es))) (length (spec_tokens f)) (length (specifiers_tokens (make.all_specifiers (f ∷ es)))) at size)) q))

pub specs_more : (us vs : List Terminal) (es : List make.SpecifierAt) (e : make.SpecifierAt) → SSpecs us es → Spelled spec_tokens PlacedSpec vs e → SSpecs (us ++ vs) (es ++ e ∷ [])
specs_more us vs es e l r = record {
  spells = specs_spell es e ∙ simp (map-append, l.spells, r.spells) refl;
  places = λ at h.
      let a = split at us vs h in
      specs_places at es e (l.places at a.0) (r.places _ (subst (λ n. Agrees (behind n at) vs) (sym (counted us es l)) a.1));
}

-- ---- declarations

abbrev pub SDeclarations : List Terminal → List Declaration → Type 0
SDeclarations ws es = Spelled (λ fs. declarations_tokens (view.declarations fs)) (λ at fs. PlacedDeclarations at (view.declarations fs)) ws es

pub declarations_none : SDeclarations [] []
declarations_none = record { spells = refl; places = λ at h. tt }

pub declarations_spell : (es : List Declaration) (e : Declaration) → declarations_tokens (view.declarations (es ++ e ∷ [])) ≡ declarations_tokens (view.declarations es) ++ declaration_tokens e
declarations_spell [] e = append-nil (declaration_tokens e)
declarations_spell (f ∷ es) e = ap (λ v. declaration_tokens f ++ v) (declarations_spell es e) ∙ sym (append_assoc (declaration_tokens f) (declarations_tokens (view.declarations es)) (declaration_tokens e))

pub declarations_places : (at : ℕ → Place) (es : List Declaration) (e : Declaration) → PlacedDeclarations at (view.declarations es) → PlacedDeclaration (behind (length (declarations_tokens (view.declarations es))) at) e → PlacedDeclarations at (view.declarations (es ++ e ∷ []))
declarations_places at [] e p q = (subst (λ v. PlacedDeclaration v e) (behind_zero at) q, tt)
declarations_places at (f ∷ es) e p q =
    let size : length (declaration_tokens f) + length (declarations_tokens (view.declarations es)) ≡ length (declarations_tokens (view.declarations (f ∷ es))) = sym (length-append (declaration_tokens f) (declarations_tokens (view.declarations es))) in
    (p.0, declarations_places (behind (length (declaration_tokens f)) at) es e p.1 (subst (λ v. PlacedDeclaration v e) (sym (behind_behind (length (declarations_tokens (view.declarations es))) (length (declaration_tokens f)) (length (declarations_tokens (view.declarations (f ∷ es)))) at size)) q))

pub declarations_more : (us vs : List Terminal) (es : List Declaration) (e : Declaration) → SDeclarations us es → Spelled declaration_tokens PlacedDeclaration vs e → SDeclarations (us ++ vs) (es ++ e ∷ [])
declarations_more us vs es e l r = record {
  spells = declarations_spell es e ∙ simp (map-append, l.spells, r.spells) refl;
  places = λ at h.
      let a = split at us vs h in
      declarations_places at es e (l.places at a.0) (r.places _ (subst (λ n. Agrees (behind n at) vs) (sym (counted us es l)) a.1));
}

-- ---- statements

abbrev pub SStatements : List Terminal → List Statement → Type 0
SStatements ws es = Spelled (λ fs. statements_tokens (make.all_statements fs)) (λ at fs. PlacedStatements at (make.all_statements fs)) ws es

pub statements_none : SStatements [] []
statements_none = record { spells = refl; places = λ at h. tt }

pub statements_spell : (es : List Statement) (e : Statement) → statements_tokens (make.all_statements (es ++ e ∷ [])) ≡ statements_tokens (make.all_statements es) ++ statement_tokens e
statements_spell [] e = append-nil (statement_tokens e)
statements_spell (f ∷ es) e = ap (λ v. statement_tokens f ++ v) (statements_spell es e) ∙ sym (append_assoc (statement_tokens f) (statements_tokens (make.all_statements es)) (statement_tokens e))

pub statements_places : (at : ℕ → Place) (es : List Statement) (e : Statement) → PlacedStatements at (make.all_statements es) → PlacedStatement (behind (length (statements_tokens (make.all_statements es))) at) e → PlacedStatements at (make.all_statements (es ++ e ∷ []))
statements_places at [] e p q = (subst (λ v. PlacedStatement v e) (behind_zero at) q, tt)
statements_places at (f ∷ es) e p q =
    let size : length (statement_tokens f) + length (statements_tokens (make.all_statements es)) ≡ length (statements_tokens (make.all_statements (f ∷ es))) = sym (length-append (statement_tokens f) (statements_tokens (make.all_statements es))) in
    (p.0, statements_places (behind (length (statement_tokens f)) at) es e p.1 (subst (λ v. PlacedStatement v e) (sym (behind_behind (length (statements_tokens (make.all_statements es))) (length (statement_tokens f)) (length (statements_tokens (make.all_statements (f ∷ es)))) at size)) q))

pub statements_more : (us vs : List Terminal) (es : List Statement) (e : Statement) → SStatements us es → Spelled statement_tokens PlacedStatement vs e → SStatements (us ++ vs) (es ++ e ∷ [])
statements_more us vs es e l r = record {
  spells = statements_spell es e ∙ simp (map-append, l.spells, r.spells) refl;
  places = λ at h.
      let a = split at us vs h in
      statements_places at es e (l.places at a.0) (r.places _ (subst (λ n. Agrees (behind n at) vs) (sym (counted us es l)) a.1));
}
