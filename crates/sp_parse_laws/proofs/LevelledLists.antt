-- Lists with one part more are levelled where both are, and settling keeps what is levelled.
use Rattle.std.proofs.Common.{◌≡◌, ◌+◌, ◌≤◌, false, List, [], ◌∷◌, ◌++◌, refl, sym, ap, ◌∙◌, arith, append_assoc}
use Rattle.std.specs.Prelude.{is_none}
use Rattle.sp_tree.specs.declared.fault.Place.{Place}
use Rattle.sp_parse_trees.specs.Syntax as syntax
use Rattle.sp_parse_trees.specs.Syntax.{Expression, Specifier, Specifiers, next_specifier, no_specifiers, Declarator, DeclaratorForm, declarator, Param, param, TypeName, type_name, Init, InitDeclarator, Declaration}
use Rattle.sp_parse_trees.specs.Levels.{Scope, level, storages, basics, whole, wholes, is_absent, is_direct, has_params, names_type, IsLevelled, AreLevelled, IsLevelledMaybe, IsLevelledSpecifier, AreLevelledSpecifiers, DeclareMembers, DeclaresMember, NameMembers, NamesMember, AreLevelledEnumerators, IsLevelledDeclarator, IsLevelledDeclaratorForm, IsLevelledParam, AreLevelledParams, IsLevelledTypeName, IsLevelledInit, AreLevelledInits, AreLevelledItems, IsLevelledDeclaration, AreLevelledDeclarations}
use Rattle.sp_parse_trees.specs.View as view
use Rattle.sp_parse_tokens.specs.Makers as make
use Rattle.sp_parse_laws.proofs.SpellingDeclarators.{settle_name}

-- ---- specifiers

abbrev alone : make.SpecifierAt → Specifiers
alone r = next_specifier r.tree no_specifiers

storages_next : (s : Specifier) (ss : Specifiers) → storages (next_specifier s ss) ≡ storages (next_specifier s no_specifiers) ++ storages ss
storages_next (syntax.storage k) ss = refl
storages_next _ ss = refl

basics_next : (s : Specifier) (ss : Specifiers) → basics (next_specifier s ss) ≡ basics (next_specifier s no_specifiers) ++ basics ss
basics_next (syntax.basic k) ss = refl
basics_next _ ss = refl

pub storages_more : (ss : List make.SpecifierAt) (r : make.SpecifierAt) → storages (make.all_specifiers (ss ++ r ∷ [])) ≡ storages (make.all_specifiers ss) ++ storages (alone r)
storages_more [] r = refl
storages_more (s ∷ ss) r = storages_next s.tree (make.all_specifiers (ss ++ r ∷ [])) ∙ ap (λ v. storages (alone s) ++ v) (storages_more ss r) ∙ sym (append_assoc (storages (alone s)) (storages (make.all_specifiers ss)) (storages (alone r))) ∙ ap (λ v. v ++ storages (alone r)) (sym (storages_next s.tree (make.all_specifiers ss)))

pub basics_more : (ss : List make.SpecifierAt) (r : make.SpecifierAt) → basics (make.all_specifiers (ss ++ r ∷ [])) ≡ basics (make.all_specifiers ss) ++ basics (alone r)
basics_more [] r = refl
basics_more (s ∷ ss) r = basics_next s.tree (make.all_specifiers (ss ++ r ∷ [])) ∙ ap (λ v. basics (alone s) ++ v) (basics_more ss r) ∙ sym (append_assoc (basics (alone s)) (basics (make.all_specifiers ss)) (basics (alone r))) ∙ ap (λ v. v ++ basics (alone r)) (sym (basics_next s.tree (make.all_specifiers ss)))

pub wholes_more : (ss : List make.SpecifierAt) (r : make.SpecifierAt) → wholes (make.all_specifiers (ss ++ r ∷ [])) ≡ wholes (make.all_specifiers ss) + whole r.tree
wholes_more [] r = omega arith
wholes_more (s ∷ ss) r = omega (arith, wholes_more ss r)

pub specifiers_more : (c : Scope) (ss : List make.SpecifierAt) (r : make.SpecifierAt) → AreLevelledSpecifiers c (make.all_specifiers ss) → IsLevelledSpecifier c r.tree → AreLevelledSpecifiers c (make.all_specifiers (ss ++ r ∷ []))
specifiers_more c [] r h k = (k, tt)
specifiers_more c (s ∷ ss) r h k = (h.0, specifiers_more c ss r h.1 k)

-- ---- lists of parts

pub args_more : (c : Scope) (es : List Expression) (e : Expression) → AreLevelled c (view.expressions es) → 1 ≤ level e → IsLevelled c e → AreLevelled c (view.expressions (es ++ e ∷ []))
args_more c [] e h l k = (l, k, tt)
args_more c (f ∷ es) e h l k = (h.0, h.1, args_more c es e h.2 l k)

pub members_more : (c : Scope) (ds : List Declaration) (d : Declaration) → DeclareMembers c (view.declarations ds) → DeclaresMember c d → DeclareMembers c (view.declarations (ds ++ d ∷ []))
members_more c [] d h k = (k, tt)
members_more c (f ∷ ds) d h k = (h.0, members_more c ds d h.1 k)

pub names_more : (c : Scope) (is : List InitDeclarator) (i : InitDeclarator) → NameMembers c (make.all_items is) → NamesMember c i → NameMembers c (make.all_items (is ++ i ∷ []))
names_more c [] i h k = (k, tt)
names_more c (f ∷ is) i h k = (h.0, names_more c is i h.1 k)

pub enumerators_more : (c : Scope) (es : List make.Enumerator) (e : make.Enumerator) → AreLevelledEnumerators c (make.all_enumerators es) → names_type c e.name ≡ false → IsLevelledMaybe c 2 (view.maybe_expression e.value) → AreLevelledEnumerators c (make.all_enumerators (es ++ e ∷ []))
enumerators_more c [] e h n k = (n, k, tt)
enumerators_more c (f ∷ es) e h n k = (h.0, h.1, enumerators_more c es e h.2 n k)

pub params_more : (c : Scope) (ps : List Param) (p : Param) → AreLevelledParams c (view.params ps) → IsLevelledParam c p → AreLevelledParams c (view.params (ps ++ p ∷ []))
params_more c [] p h k = (k, tt)
params_more c (f ∷ ps) p h k = (h.0, params_more c ps p h.1 k)

pub inits_more : (c : Scope) (is : List Init) (i : Init) → AreLevelledInits c (view.inits is) → IsLevelledInit c i → AreLevelledInits c (view.inits (is ++ i ∷ []))
inits_more c [] i h k = (k, tt)
inits_more c (f ∷ is) i h k = (h.0, inits_more c is i h.1 k)

pub items_both : (c : Scope) (is js : List InitDeclarator) → AreLevelledItems c (make.all_items is) → AreLevelledItems c (make.all_items js) → AreLevelledItems c (make.all_items (is ++ js))
items_both c [] js h k = k
items_both c (f ∷ is) js h k = (h.0, items_both c is js h.1 k)

pub declarations_more : (c : Scope) (ds : List Declaration) (d : Declaration) → AreLevelledDeclarations c (view.declarations ds) → IsLevelledDeclaration c d → AreLevelledDeclarations c (view.declarations (ds ++ d ∷ []))
declarations_more c [] d h k = (k, tt)
declarations_more c (f ∷ ds) d h k = (h.0, declarations_more c ds d h.1 k)

-- ---- settling

mutual
  pub settle_levelled : (c : Scope) (p : Place) (d : Declarator) → IsLevelledDeclarator c d → IsLevelledDeclarator c (make.settle p d)
  settle_levelled c p (declarator f q) h = settle_form_levelled c p q f h

  settle_form_levelled : (c : Scope) (p q : Place) (f : DeclaratorForm) → IsLevelledDeclaratorForm c f → IsLevelledDeclarator c (make.settle_form p q f)
  settle_form_levelled c p q syntax.absent h = h
  settle_form_levelled c p q (syntax.declared n) h = h
  settle_form_levelled c p q (syntax.group d) h = h
  settle_form_levelled c p q (syntax.pointer ks d) h = (h.0, settle_levelled c p d h.1)
  settle_form_levelled c p q (syntax.array d e) h = h
  settle_form_levelled c p q (syntax.function d ps dots) h = h

pub settle_direct : (p : Place) (d : Declarator) → is_direct (make.settle p d) ≡ is_direct d
settle_direct p (declarator syntax.absent q) = refl
settle_direct p (declarator (syntax.declared n) q) = refl
settle_direct p (declarator (syntax.group d) q) = refl
settle_direct p (declarator (syntax.pointer ks d) q) = refl
settle_direct p (declarator (syntax.array d e) q) = refl
settle_direct p (declarator (syntax.function d ps dots) q) = refl

pub settle_absent : (p : Place) (d : Declarator) → is_absent (make.settle p d) ≡ is_absent d
settle_absent p (declarator syntax.absent q) = refl
settle_absent p (declarator (syntax.declared n) q) = refl
settle_absent p (declarator (syntax.group d) q) = refl
settle_absent p (declarator (syntax.pointer ks d) q) = refl
settle_absent p (declarator (syntax.array d e) q) = refl
settle_absent p (declarator (syntax.function d ps dots) q) = refl

pub settle_param_levelled : (c : Scope) (p : Place) (x : Param) → IsLevelledParam c x → IsLevelledParam c (make.settle_param p x)
settle_param_levelled c p (param ss d) h = (h.0, h.1, h.2, settle_levelled c p d h.3)

pub settle_last_levelled : (c : Scope) (p : Place) (ps : List Param) → AreLevelledParams c (view.params ps) → AreLevelledParams c (view.params (make.settle_last p ps))
settle_last_levelled c p [] h = h
settle_last_levelled c p (x ∷ []) h = (settle_param_levelled c p x h.0, tt)
settle_last_levelled c p (x ∷ y ∷ ys) h = (h.0, settle_last_levelled c p (y ∷ ys) h.1)

pub settle_type_levelled : (c : Scope) (p : Place) (x : TypeName) → IsLevelledTypeName c x → IsLevelledTypeName c (make.settle_type p x)
settle_type_levelled c p (type_name ss d) h = (h.0, h.1, h.2, ap is_none (settle_name p d) ∙ h.3, settle_levelled c p d h.4)

pub has_last : (p : Place) (ps : List Param) → has_params (view.params (make.settle_last p ps)) ≡ has_params (view.params ps)
has_last p [] = refl
has_last p (x ∷ []) = refl
has_last p (x ∷ y ∷ ys) = refl
