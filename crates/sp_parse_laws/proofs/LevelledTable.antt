-- The table of C90 reads levelled trees: declarators, lists, initialisers and declarations, and all items together.
use Rattle.std.proofs.Common.{◌≡◌, ℕ, zero, suc, ◌+◌, ◌-◌, ◌≤◌, Bool, true, false, inl, inr, List, [], ◌∷◌, ◌++◌, map, Option, Some, None, refl, ap, ap₂, ◌∙◌, arith}
use Rattle.std.specs.Prelude.{if◌then◌else◌, is_some, is_none, ◌||◌, ◌&&◌, not}
use Rattle.std.specs.List.{list_all}
use Rattle.sp_tree.specs.declared.token.Kind.{Kind}
use Rattle.sp_parse_trees.specs.Words.{is_qualifier}
use Rattle.sp_parse_trees.specs.Syntax as syntax
use Rattle.sp_parse_trees.specs.Syntax.{Expression, Declarator, InitDeclarator, Declaration, Param}
use Rattle.sp_parse_trees.specs.Levels.{Scope, level, declared_name, is_absent, is_direct, has_params, has_declarations, has_enumerators, has_items, has_inits, IsLevelled, IsLevelledMaybe, AreLevelledParams}
use Rattle.sp_parse_trees.specs.View as view
use Rattle.sp_parse_grammar.specs.CTokens as tokens
use Rattle.sp_parse_grammar.specs.CTokens.{Sort, Seen, view as viewed, add, is_mark, is_specifier, is_typed, nothing_seen, whole_seen}
use Rattle.sp_parse_grammar.specs.CTable as grammar
use Rattle.sp_parse_grammar.specs.CTable.{Context, Operand, Specified, Declared, Parameters, Items, Ask, at, unit, whole, c_symbols, plan, stands_behind, specifiers_plan, begins_expression}
use Rattle.sp_parse_grammar.specs.Table.{Plan, ask, Reads}
use Rattle.sp_parse_grammar.specs.Kept.{KeptAt, IsKept}
use Rattle.sp_parse_grammar.proofs.Keeping.{kept_front}
use Rattle.sp_parse_tokens.specs.Makers as make
use Rattle.sp_parse_tokens.specs.Sorts.{Terminal}
use Rattle.sp_parse_tokens.specs.SyntaxTrees.{syntax_trees, c_table}
use Rattle.sp_parse_tokens.specs.Depths.{Part}
use Rattle.sp_parse_laws.proofs.TokenKinds.{Of, at_sort}
use Rattle.sp_parse_laws.proofs.Spelling.{HasSome}
use Rattle.sp_parse_laws.proofs.SpellingDeclarators.{settle_name}
use Rattle.sp_parse_laws.proofs.LevelledAnswers.{scope_of, Fits, SpecifiersSoFar, LevelledSpecifiers, NamesForm, LevelledDeclarator, LevelledParameters, AllQualify, LevelledAnswer}
use Rattle.sp_parse_laws.proofs.LevelledLists as lists
use Rattle.sp_parse_laws.proofs.LevelledChecked.{Kept, Item, kept_if, name_is, operator_kept, unary_kept, primary_kept, texts_kept, suffixes_kept}
use Rattle.sp_parse_laws.proofs.LevelledSpecifiers.{step_word, step_whole, list_ends, nothing_so_far}

-- ---- specifiers

specifiers_kept : (g : Context) (stores : Bool) (seen : Seen) (sp : Specified syntax_trees) (x : Terminal) (t : Sort) (o : Option Seen) → viewed g.types x.sort ≡ t → add stores g.inside seen t ≡ o → Kept g (grammar.specifiers stores seen sp) x (specifiers_plan g stores seen sp x t o)
specifiers_kept g stores seen sp x t None v e = kept_if _ _ x (is_typed seen) _ _ (λ b left. list_ends g stores seen sp b left) (λ b. tt)
specifiers_kept g stores seen sp x (tokens.mark tokens.struct) (Some new) v e = λ taken vs r p ws o rest left. rest (step_whole g stores seen new sp r e p left)
specifiers_kept g stores seen sp x (tokens.mark tokens.enum) (Some new) v e = λ taken vs r p ws o rest left. rest (step_whole g stores seen new sp r e p left)
specifiers_kept g stores seen sp x t (Some new) v e = λ taken ws o rest left. rest (step_word g stores seen new sp x t v e refl refl left)

has_these : (ds : List Declaration) → HasSome ds → has_declarations (view.declarations ds) ≡ true
has_these [] h = elim h [ ]
has_these (d ∷ ds) h = refl

has_constants : (es : List make.Enumerator) → HasSome es → has_enumerators (make.all_enumerators es) ≡ true
has_constants [] h = elim h [ ]
has_constants (e ∷ es) h = refl

has_declarators : (is : List InitDeclarator) → HasSome is → has_items (make.all_items is) ≡ true
has_declarators [] h = elim h [ ]
has_declarators (i ∷ is) h = refl

has_initialisers : (is : List syntax.Init) → HasSome is → has_inits (view.inits is) ≡ true
has_initialisers [] h = elim h [ ]
has_initialisers (i ∷ is) h = refl

-- `in_structure` changes nothing that is levelled
struct_kept : (g : Context) (y : Terminal) (x : Terminal) (t : Sort) → Item g (grammar.behind_struct y) x t
struct_kept g y x (tokens.mark tokens.brace) v = λ taken ms m p rest ds q w tw. let r = q (p, tt) tt in record { storage = refl; words = refl; count = refl; levelled = (refl, (has_these ds r.1, r.0)) }
struct_kept g y x (tokens.name n) v = λ taken ws r p. p
struct_kept g y x (tokens.named_type n) v = λ taken ws r p. p
struct_kept g y x _ v = tt

enum_kept : (g : Context) (y : Terminal) (x : Terminal) (t : Sort) → Item g (grammar.behind_enum y) x t
enum_kept g y x (tokens.mark tokens.brace) v = λ taken ms m p rest es q w tw. let r = q (p.0, p.1, tt) tt in record { storage = refl; words = refl; count = refl; levelled = (refl, (has_constants es r.1, r.0)) }
enum_kept g y x (tokens.name n) v = λ taken ws r p. p
enum_kept g y x (tokens.named_type n) v = λ taken ws r p. p
enum_kept g y x _ v = tt

enumerator_kept : (g : Context) (x : Terminal) (t : Sort) → Item g grammar.enumerator x t
enumerator_kept g x (tokens.name n) v = λ taken ws o p. (name_is g x n v, p)
enumerator_kept g x _ v = tt

maybe_level : (g : Context) (k j : ℕ) (o : Operand syntax_trees) → j + k ≡ 13 → Fits g k o → IsLevelledMaybe (scope_of g) j (view.maybe_expression (Some o.tree))
maybe_level g k j o e f = (omega (arith, f.within), f.levelled)

-- ---- declarators

qualifier_word : (k : Kind) → Of tokens.qualifier k → is_qualifier (make.keyword_of k) ≡ true
qualifier_word k (w, e, s, q) = ap (λ v. is_qualifier (make.keyword_of v)) e ∙ q

qualify_more : (xs : List Terminal) (x : Terminal) → AllQualify xs → is_qualifier (make.keyword_of x.what.kind) ≡ true → AllQualify (xs ++ x ∷ [])
qualify_more [] x h k = (k, tt)
qualify_more (y ∷ ys) x h k = (h.0, qualify_more ys x h.1 k)

qualifiers_kept : (g : Context) (xs : List Terminal) (x : Terminal) (t : Sort) → Item g (grammar.qualifiers xs) x t
qualifiers_kept g xs x tokens.qualifier v = λ taken ws ys p h. p (qualify_more xs x h (qualifier_word x.what.kind (at_sort g.types x tokens.qualifier v)))
qualifiers_kept g xs x _ v = λ h. h

all_qualify : (ys : List Terminal) → AllQualify ys → list_all is_qualifier (map (λ q. make.keyword_of q.kind) (map (λ q. q.what) ys)) ≡ true
all_qualify [] h = refl
all_qualify (y ∷ ys) h = ap₂ (λ a b. a && b) h.0 (all_qualify ys h.1)

named_form : (f : grammar.Form) (d e : Declarator) → declared_name d ≡ declared_name e → NamesForm f e → NamesForm f d
named_form grammar.concrete d e same h = ap is_some same ∙ h
named_form grammar.abstract d e same h = ap is_none same ∙ h
named_form grammar.either d e same h = tt

pointed : (g : Context) (f : grammar.Form) (x : Terminal) (ys : List Terminal) (e : Declared syntax_trees) → AllQualify ys → LevelledDeclarator g f e → LevelledDeclarator g f (grammar.pointed x ys e)
pointed g f x ys e q l = record { levelled = (all_qualify ys q, l.levelled); names = named_form f _ e.tree refl l.names; declares = l.declares }

declarator_kept : (g : Context) (f : grammar.Form) (x : Terminal) (t : Sort) → Item g (grammar.declarator f) x t
declarator_kept g f x t v = kept_if _ _ x (is_mark tokens.star t) _ _
    (λ b taken qs ys q vs e p. pointed g f x ys e (q tt) p)
    (λ b us e p ws o q. (q f p.0 p.1).0)

named_levelled : (g : Context) (f : grammar.Form) (x : Terminal) (n : ℕ) → viewed g.types x.sort ≡ tokens.name n → NamesForm f (make.make_named x.what) → LevelledDeclarator g f (grammar.named_declarator x n)
named_levelled g f x n v h = record { levelled = name_is g x n v; names = h; declares = ap (λ k. Some (make.number_of k)) (at_sort g.types x (tokens.name n) v).0 }

absent_levelled : (g : Context) (f : grammar.Form) → NamesForm f make.make_absent → LevelledDeclarator g f (grammar.absent_declarator f)
absent_levelled g f h = record { levelled = tt; names = h; declares = refl }

direct_kept : (g : Context) (f : grammar.Form) (x : Terminal) (t : Sort) → Item g (grammar.direct f) x t
direct_kept g grammar.concrete x (tokens.name n) v = λ taken. (named_levelled g grammar.concrete x n v refl, refl)
direct_kept g grammar.either x (tokens.name n) v = λ taken. (named_levelled g grammar.either x n v tt, refl)
direct_kept g grammar.concrete x (tokens.mark tokens.opening) v = λ taken ws e p. (p.0, p.1)
direct_kept g grammar.abstract x (tokens.mark tokens.opening) v = λ taken ws e p. (p.0, p.1)
direct_kept g grammar.either x (tokens.mark tokens.opening) v = λ taken ws e p. (p.0, p.1)
direct_kept g grammar.concrete x _ v = tt
direct_kept g grammar.abstract x _ v = (absent_levelled g grammar.abstract refl, refl)
direct_kept g grammar.either x _ v = (absent_levelled g grammar.either tt, refl)

arrayed : (g : Context) (f : grammar.Form) (e : Declared syntax_trees) (x : Terminal) (n : Option Expression) → LevelledDeclarator g f e → is_direct e.tree ≡ true → IsLevelledMaybe (scope_of g) 2 (view.maybe_expression n) → LevelledDeclarator g f (grammar.array_of e x n)
arrayed g f e x n l d m = record {
  levelled = (lists.settle_direct x.what.place e.tree ∙ d, lists.settle_levelled (scope_of g) x.what.place e.tree l.levelled, m);
  names = named_form f _ e.tree (settle_name x.what.place e.tree) l.names;
  declares = settle_name x.what.place e.tree ∙ l.declares;
}

closed_has : (ps : List Param) (b : Bool) (z : Terminal) → has_params (make.closed_params ps b z.what) ≡ has_params (view.params ps)
closed_has ps true z = refl
closed_has ps false z = lists.has_last z.what.place ps

closed_levelled : (c : Scope) (ps : List Param) (b : Bool) (z : Terminal) → AreLevelledParams c (view.params ps) → AreLevelledParams c (make.closed_params ps b z.what)
closed_levelled c ps true z h = h
closed_levelled c ps false z h = lists.settle_last_levelled c z.what.place ps h

functioned : (g : Context) (f : grammar.Form) (e : Declared syntax_trees) (x : Terminal) (ps : Parameters syntax_trees) (z : Terminal) → LevelledDeclarator g f e → is_direct e.tree ≡ true → LevelledParameters g ps → LevelledDeclarator g f (grammar.function_of e x ps z)
functioned g f e x ps z l d p = record {
  levelled = (lists.settle_direct x.what.place e.tree ∙ d, lists.settle_levelled (scope_of g) x.what.place e.tree l.levelled, (λ h. closed_has ps.all ps.dots z ∙ p.dots h), closed_levelled (scope_of g) ps.all ps.dots z p.all);
  names = named_form f _ e.tree (settle_name x.what.place e.tree) l.names;
  declares = settle_name x.what.place e.tree ∙ l.declares;
}

grouped : (g : Context) (f : grammar.Form) (y : Terminal) (e : Declared syntax_trees) (z : Terminal) → LevelledDeclarator g f e → is_absent e.tree ≡ false → LevelledDeclarator g f (grammar.group_of y e z)
grouped g f y e z l a = record {
  levelled = (lists.settle_absent z.what.place e.tree ∙ a, lists.settle_levelled (scope_of g) z.what.place e.tree l.levelled);
  names = named_form f _ e.tree (settle_name z.what.place e.tree) l.names;
  declares = settle_name z.what.place e.tree ∙ l.declares;
}

group_kept : (g : Context) (f : grammar.Form) (x : Terminal) (t : Sort) → Item g (grammar.group f) x t
group_kept g f x (tokens.mark tokens.star) v = λ taken qs ys q vs e p. (pointed g f x ys e (q tt) p, refl)
group_kept g f x (tokens.mark tokens.opening) v = λ taken us e p ws o q. let r = q f p.0 p.1 in (r.0, r.1 p.2)
group_kept g grammar.concrete x (tokens.name n) v = λ taken ws o q. let r = q grammar.concrete (named_levelled g grammar.concrete x n v refl) refl in (r.0, r.1 refl)
group_kept g grammar.either x (tokens.name n) v = λ taken ws o q. let r = q grammar.either (named_levelled g grammar.either x n v tt) refl in (r.0, r.1 refl)
group_kept g grammar.abstract x (tokens.mark tokens.bracket) v = λ taken vs n p z tz ws e q. let r = q grammar.abstract (arrayed g grammar.abstract (grammar.absent_declarator grammar.abstract) x n (absent_levelled g grammar.abstract refl) refl p) refl in (r.0, r.1 refl)
group_kept g grammar.either x (tokens.mark tokens.bracket) v = λ taken vs n p z tz ws e q. let r = q grammar.either (arrayed g grammar.either (grammar.absent_declarator grammar.either) x n (absent_levelled g grammar.either tt) refl p) refl in (r.0, r.1 refl)
group_kept g f x _ v = tt

no_concrete : (f : grammar.Form) (b : Bool) → not (grammar.is_concrete f) && b ≡ true → NamesForm f make.make_absent
no_concrete grammar.concrete b e = absurd cc
no_concrete grammar.abstract b e = refl
no_concrete grammar.either b e = tt

behind_group_kept : (g : Context) (f : grammar.Form) (y : Terminal) (x : Terminal) (t : Sort) → Item g (grammar.behind_group f y) x t
behind_group_kept g f y x t v = kept_if _ _ x (not (grammar.is_concrete f) && grammar.is_parameters t) _ _
    (λ b vs ps p z tz. (functioned g f (grammar.absent_declarator f) y ps z (absent_levelled g f (no_concrete f (grammar.is_parameters t) b)) refl p, refl, refl))
    (λ b vs e p z tz. (grouped g f y e z p.0 p.1, refl, refl))

suffix_kept : (g : Context) (e : Declared syntax_trees) (x : Terminal) (t : Sort) → Item g (grammar.declarator_suffixes e) x t
suffix_kept g e x (tokens.mark tokens.bracket) v = λ taken vs n p z tz ws o q f l d. let r = q f (arrayed g f e x n l d p) refl in (r.0, λ h. r.1 refl)
suffix_kept g e x (tokens.mark tokens.opening) v = λ taken vs ps p z tz ws o q f l d. let r = q f (functioned g f e x ps z l d p) refl in (r.0, λ h. r.1 refl)
suffix_kept g e x _ v = λ f l d. (l, λ h. h)

-- ---- all items

statement_kept : (g : Context) (x : Terminal) (t : Sort) → Item g grammar.statement x t
statement_kept g x (tokens.name n) v = λ e0. λ vs1 a1 p1. tt
statement_kept g x (tokens.mark tokens.semicolon) v = λ e0. tt
statement_kept g x (tokens.mark tokens.brace) v = λ e0. λ vs1 a1 p1. λ vs2 a2 p2. λ z3 e3. tt
statement_kept g x (tokens.mark tokens.case) v = λ e0. λ vs1 a1 p1. λ z2 e2. λ vs3 a3 p3. tt
statement_kept g x (tokens.mark tokens.default) v = λ e0. λ z1 e1. λ vs2 a2 p2. tt
statement_kept g x (tokens.mark tokens.if_word) v = λ e0. λ z1 e1. λ vs2 a2 p2. λ z3 e3. λ vs4 a4 p4. λ vs5 a5 p5. tt
statement_kept g x (tokens.mark tokens.switch) v = λ e0. λ z1 e1. λ vs2 a2 p2. λ z3 e3. λ vs4 a4 p4. tt
statement_kept g x (tokens.mark tokens.while) v = λ e0. λ z1 e1. λ vs2 a2 p2. λ z3 e3. λ vs4 a4 p4. tt
statement_kept g x (tokens.mark tokens.do_word) v = λ e0. λ vs1 a1 p1. λ z2 e2. λ z3 e3. λ vs4 a4 p4. λ z5 e5. λ z6 e6. tt
statement_kept g x (tokens.mark tokens.for) v = λ e0. λ z1 e1. λ vs2 a2 p2. λ z3 e3. λ vs4 a4 p4. λ z5 e5. λ vs6 a6 p6. λ z7 e7. λ vs8 a8 p8. tt
statement_kept g x (tokens.mark tokens.goto) v = λ e0. λ z1 e1. λ z2 e2. tt
statement_kept g x (tokens.mark tokens.continue) v = λ e0. λ z1 e1. tt
statement_kept g x (tokens.mark tokens.break) v = λ e0. λ z1 e1. tt
statement_kept g x (tokens.mark tokens.return) v = λ e0. λ vs1 a1 p1. λ z2 e2. tt
statement_kept g x _ v = λ vs0 a0 p0. λ z1 e1. tt

some_more : {A : Type 0} (xs : List A) (x : A) → HasSome (xs ++ x ∷ [])
some_more [] x = tt
some_more (y ∷ ys) x = tt

some_both : {A : Type 0} (xs ys : List A) → HasSome xs → HasSome (xs ++ ys)
some_both [] ys h = elim h [ ]
some_both (x ∷ xs) ys h = tt

has_parameters : (ps : List Param) → HasSome ps → has_params (view.params ps) ≡ true
has_parameters [] h = elim h [ ]
has_parameters (p ∷ ps) h = refl

some_last : (x : Terminal) (ps : List Param) → HasSome ps → HasSome (make.settle_last x.what.place ps)
some_last x [] h = elim h [ ]
some_last x (p ∷ []) h = tt
some_last x (p ∷ q ∷ qs) h = tt

whole_list : (g : Context) (o : Specified syntax_trees) → ((SpecifiersSoFar g true nothing_seen grammar.no_specifiers) → LevelledSpecifiers g true o) → LevelledSpecifiers g true o
whole_list g o p = p (nothing_so_far g true)

bare_list : (g : Context) (o : Specified syntax_trees) → ((SpecifiersSoFar g false nothing_seen grammar.no_specifiers) → LevelledSpecifiers g false o) → LevelledSpecifiers g false o
bare_list g o p = p (nothing_so_far g false)

first_fits : (g : Context) (e : Expression) → 15 ≤ level e → IsLevelled (scope_of g) e → Fits g 0 (grammar.operand e true)
first_fits g e h l = record { within = omega (arith, h); unary = λ u. omega (arith, h); levelled = l }

each_kept : (g : Context) (i : Part) (x : Terminal) (t : Sort) → Item g i x t
each_kept g (grammar.level zero) x t v = kept_if _ _ x (is_mark tokens.opening t) _ _
    (λ b taken ws o p h. p)
    (λ b ws e p h. record { within = omega (arith, p.0); unary = λ u. p.0; levelled = p.1 })
each_kept g (grammar.level (suc k)) x t v = λ ws l p vs o q h.
    let left = p (omega arith) in
    q (omega arith) h (record { within = omega (arith, left.within); unary = left.unary; levelled = left.levelled }) (λ eleven. omega (arith, left.within, eleven))
each_kept g (grammar.after k l) x t v = kept_if _ _ x (stands_behind k l.unary t) _ _ (λ b. operator_kept g k l x t v b) (λ b low high left three. left)
each_kept g (grammar.tail zero l) x t v = λ j e left. record { within = omega arith; unary = left.unary; levelled = left.levelled }
each_kept g (grammar.tail (suc k) l) x t v = λ vs o p ws r q j e left.
    let here = p (omega arith) (omega arith) (record { within = omega (arith, left.within); unary = left.unary; levelled = left.levelled }) (λ eleven. omega (arith, left.within, eleven, e)) in
    q (13 - k) (omega arith) here
each_kept g (grammar.behind_open y) x t v = kept_if _ _ x (is_specifier t) _ _
    (λ b us n p z tz vs o q. let right = q (omega arith) in record { within = omega arith; unary = λ u. absurd cc; levelled = (lists.settle_type_levelled (scope_of g) z.what.place n.tree p, omega (arith, right.within), right.levelled) })
    (λ b vs o p z tz ws e q. let r = q (omega arith) (p (omega arith)).levelled in first_fits g e r.0 r.1)
each_kept g grammar.unary x t v = unary_kept g x t v
each_kept g grammar.primary x t v = primary_kept g x t v
each_kept g grammar.arguments x t v = kept_if _ _ x (begins_expression t) _ _
    (λ b vs o p ws es q. let f = p (omega arith) in q (omega (arith, f.within), f.levelled, tt))
    (λ b. tt)
each_kept g (grammar.behind_sizeof y) x t v = kept_if _ _ x (is_mark tokens.opening t) _ _
    (λ b taken ws e p. p)
    (λ b ws e p. (omega arith, p))
each_kept g (grammar.inside_sizeof y w) x t v = kept_if _ _ x (is_specifier t) _ _
    (λ b us n p z tz. (omega arith, lists.settle_type_levelled (scope_of g) z.what.place n.tree p))
    (λ b vs o p z tz ws e q. let r = q (omega arith) (p (omega arith)).levelled in (omega arith, (omega (arith, r.0), r.1)))
each_kept g (grammar.texts xs) x t v = texts_kept g xs x t v
each_kept g (grammar.suffixes f) x t v = suffixes_kept g f x t v
each_kept g (grammar.more_arguments es) x t v = kept_if _ _ x (is_mark tokens.comma t) _ _
    (λ b taken vs o p ws fs q left. let f = p (omega arith) in q (lists.args_more (scope_of g) es o.tree left (omega (arith, f.within)) f.levelled))
    (λ b left. left)
each_kept g grammar.type_name x t v = λ us sp p vs e q. let s = bare_list g sp p in (s.unstored refl, s.list, s.each, q.names, q.levelled)
each_kept g grammar.optional_specifiers x t v = kept_if _ _ x (grammar.begins_specifiers true g.inside t) _ _
    (λ b us sp p. inr (whole_list g sp p))
    (λ b. inl refl)
each_kept g (grammar.specifiers stores seen sp) x t v = specifiers_kept g stores seen sp x t (add stores g.inside seen t) v refl
each_kept g (grammar.behind_struct y) x t v = struct_kept g y x t v
each_kept g (grammar.behind_enum y) x t v = enum_kept g y x t v
each_kept g (grammar.struct_body y z) x t v = kept_if _ _ x (is_mark tokens.brace t) _ _
    (λ b taken ms m p rest ds q w tw. let r = q (p, tt) tt in record { storage = refl; words = refl; count = refl; levelled = (refl, (has_these ds r.1, r.0)) })
    (λ b. record { storage = refl; words = refl; count = refl; levelled = (refl, tt) })
each_kept g (grammar.enum_body y z) x t v = kept_if _ _ x (is_mark tokens.brace t) _ _
    (λ b taken ms m p rest es q w tw. let r = q (p.0, p.1, tt) tt in record { storage = refl; words = refl; count = refl; levelled = (refl, (has_constants es r.1, r.0)) })
    (λ b. record { storage = refl; words = refl; count = refl; levelled = (refl, tt) })
each_kept g grammar.member x t v = λ us sp p vs e q ws is r z tz.
    let s = bare_list g sp p in
    let names = r ((q.names, q.levelled), tt) tt in
    (s.unstored refl, s.list, s.each, has_declarators is.all names.1, names.0)
each_kept g grammar.enumerator x t v = enumerator_kept g x t v
each_kept g grammar.value_of x t v = kept_if _ _ x (is_mark tokens.equal t) _ _
    (λ b taken ws o p. maybe_level g 11 2 o refl (p (omega arith)))
    (λ b. tt)
each_kept g (grammar.members ds) x t v = kept_if _ _ x (grammar.begins_specifiers false g.inside t) _ _
    (λ b vs m p ws es q left some. q (lists.members_more (scope_of g) ds m left p) (some_more ds m))
    (λ b left some. (left, some))
each_kept g (grammar.member_items is) x t v = kept_if _ _ x (is_mark tokens.comma t) _ _
    (λ b taken vs e p ws js q left some. q (lists.names_more (scope_of g) is.all (make.make_item e.tree None) left (p.names, p.levelled)) (some_more is.all (make.make_item e.tree None)))
    (λ b left some. (left, some))
each_kept g (grammar.enumerators es) x t v = kept_if _ _ x (is_mark tokens.comma t) _ _
    (λ b taken vs e p ws fs q left some. q (lists.enumerators_more (scope_of g) es e left p.0 p.1) (some_more es e))
    (λ b left some. (left, some))
each_kept g (grammar.qualifiers xs) x t v = qualifiers_kept g xs x t v
each_kept g (grammar.declarator f) x t v = declarator_kept g f x t v
each_kept g (grammar.direct f) x t v = direct_kept g f x t v
each_kept g (grammar.group f) x t v = group_kept g f x t v
each_kept g (grammar.behind_group f y) x t v = behind_group_kept g f y x t v
each_kept g (grammar.declarator_suffixes e) x t v = suffix_kept g e x t v
each_kept g grammar.array_length x t v = kept_if _ _ x (begins_expression t) _ _
    (λ b vs o p. maybe_level g 11 2 o refl (p (omega arith)))
    (λ b. tt)
each_kept g grammar.parameters x t v = kept_if _ _ x (grammar.begins_specifiers true g.inside t) _ _
    (λ b vs p k ws ps q. q (record { all = (k, tt); dots = λ h. refl }) tt)
    (λ b. record { all = tt; dots = λ h. absurd cc })
each_kept g grammar.parameter x t v = λ us sp p vs e q. let s = whole_list g sp p in (s.list, s.declare, s.each, q.levelled)
each_kept g (grammar.more_parameters ps) x t v = kept_if _ _ x (is_mark tokens.comma t) _ _
    (λ b taken ws qs q left some. q left some)
    (λ b left some. left)
each_kept g (grammar.behind_comma c ps) x t v = kept_if _ _ x (is_mark tokens.ellipsis t) _ _
    (λ b taken left some. record { all = lists.settle_last_levelled (scope_of g) c.what.place ps.all left.all; dots = λ h. has_parameters (make.settle_last c.what.place ps.all) (some_last c ps.all some) })
    (λ b vs p k ws qs q left some. q (record { all = lists.params_more (scope_of g) (make.settle_last c.what.place ps.all) p.tree (lists.settle_last_levelled (scope_of g) c.what.place ps.all left.all) k; dots = λ h. has_parameters (make.settle_last c.what.place ps.all ++ p.tree ∷ []) (some_more (make.settle_last c.what.place ps.all) p.tree) }) (some_more (make.settle_last c.what.place ps.all) p.tree))
each_kept g grammar.init x t v = kept_if _ _ x (is_mark tokens.brace t) _ _
    (λ b taken vs i p ws r q z tz. let l = q (p, tt) tt in (has_initialisers r.all l.1, l.0))
    (λ b vs o p. let f = p (omega arith) in (omega (arith, f.within), f.levelled))
each_kept g (grammar.inits is) x t v = kept_if _ _ x (is_mark tokens.comma t) _ _
    (λ b taken ws r q left some. q left some)
    (λ b left some. (left, some))
each_kept g (grammar.behind_init_comma is) x t v = kept_if _ _ x (is_mark tokens.brace t || begins_expression t) _ _
    (λ b vs i p ws r q left some. q (lists.inits_more (scope_of g) is i left p) (some_more is i))
    (λ b left some. (left, some))
each_kept g grammar.declaration x t v = λ us sp p vs is q z tz. let s = whole_list g sp p in (s.list, s.declare, s.each, q)
each_kept g grammar.items x t v = kept_if _ _ x (grammar.begins_items t) _ _
    (λ b vs i p ws js q. q p)
    (λ b. tt)
each_kept g grammar.item x t v = λ us e p ws o q. ((p.names, p.levelled, q), tt)
each_kept g grammar.initial x t v = kept_if _ _ x (is_mark tokens.equal t) _ _
    (λ b taken ws i p. p)
    (λ b. tt)
each_kept g (grammar.declarations ds) x t v = kept_if _ _ x (grammar.begins_specifiers true g.inside t) _ _
    (λ b vs m p ws es q left. q (lists.declarations_more (scope_of g) ds m left p))
    (λ b left. left)
each_kept g (grammar.more_items is) x t v = kept_if _ _ x (is_mark tokens.comma t) _ _
    (λ b taken vs i p ws js q left. q (lists.items_both (scope_of g) is.all i.all left p))
    (λ b left. left)
each_kept g grammar.optional_expression x t v = kept_if _ _ x (begins_expression t) _ _
    (λ b vs o p. maybe_level g 13 0 o refl (p (omega arith)))
    (λ b. tt)
each_kept g grammar.statement x t v = statement_kept g x t v
each_kept g grammar.else_part x t v = kept_if _ _ x (is_mark tokens.else_word t) _ _ (λ b. λ e0. λ vs1 a1 p1. tt) (λ b. tt)
each_kept g (grammar.behind_name y) x t v = kept_if _ _ x (is_mark tokens.colon t) _ _ (λ b. λ e0. λ vs1 a1 p1. tt) (λ b. λ vs0 a0 p0. λ vs1 a1 p1. λ z2 e2. tt)
each_kept g (grammar.statements ss) x t v = kept_if _ _ x (begins_expression t || grammar.begins_other t) _ _ (λ b. λ vs0 a0 p0. λ vs1 a1 p1. tt) (λ b. tt)
each_kept g grammar.external x t v = kept_if _ _ x (is_mark tokens.semicolon t) _ _ (λ b. λ e0. tt) (λ b. λ vs0 a0 p0. λ vs1 a1 p1. tt)
each_kept g (grammar.external_items sp) x t v = kept_if _ _ x (is_mark tokens.semicolon t) _ _ (λ b. λ e0. tt) (λ b. λ vs0 a0 p0. λ vs1 a1 p1. tt)
each_kept g (grammar.behind_declarator sp e) x t v = kept_if _ _ x (is_mark tokens.brace t && not (grammar.is_variadic e.shape)) _ _ (λ b. λ e0. λ vs1 a1 p1. λ vs2 a2 p2. λ z3 e3. tt) (λ b. λ vs0 a0 p0. λ vs1 a1 p1. λ z2 e2. tt)

unit_if : (types : List ℕ) (x : Terminal) (b : Bool) (p q : Option (Plan (c_symbols syntax_trees) (unit types))) → KeptAt LevelledAnswer (unit types) x p → KeptAt LevelledAnswer (unit types) x q → KeptAt LevelledAnswer (unit types) x (if b then p else q)
unit_if types x true p q first second = first
unit_if types x false p q first second = second

-- Each production makes levelled trees.
pub levelled_kept : IsKept c_table LevelledAnswer
levelled_kept (at g i) x = each_kept g i x (viewed g.types x.sort) refl
levelled_kept (unit types) x = unit_if types x (is_mark tokens.semicolon (viewed types x.sort) || grammar.begins_specifiers true false (viewed types x.sort)) _ _ (λ vs0 a0 p0. λ vs1 a1 p1. tt) tt
levelled_kept whole x = λ vs0 a0 p0. λ z1 e1. tt

-- What is read is levelled.
pub is_levelled : (n : Ask syntax_trees) (front ys : List Terminal) (a : grammar.Answer n) → Reads c_table n (ask n) (front ++ ys) a ys → LevelledAnswer n front a
is_levelled n front ys a r = kept_front c_table LevelledAnswer levelled_kept front ys a r
