-- Each production of statements, external declarations and units makes levelled trees of levelled parts.
--
-- That each `else` is at its nearest `if` hangs on the token behind a statement: where that is an `else`, the statement doesn't
-- end open, since the grammar would have given it the `else`.
use Rattle.std.proofs.Common.{◌≡◌, ◌≤◌, ℕ, Bool, true, false, List, [], ◌∷◌, ◌++◌, Option, Some, None, refl, sym, ap, ◌∙◌, subst, arith}
use Rattle.std.proofs.lemmas.Bool.{false≢true}
use Rattle.std.specs.Prelude.{⊤, if◌then◌else◌, ◌||◌, ◌&&◌, not}
use Rattle.sp_parse_trees.specs.Syntax as syntax
use Rattle.sp_parse_trees.specs.Syntax.{Statement}
use Rattle.sp_parse_trees.specs.Levels.{Scope, level, declares_types, names_type, has_else, ends_open, form_ends_open, else_ends_open, named_by, new_types, IsLevelled, IsLevelledStatement, IsLevelledStatementForm, IsLevelledElse, AreLevelledStatements, AreLevelledSpecifiers, may_declare, IsLevelledDeclarator, AreLevelledItems, IsLevelledExternal, AreLevelledExternals, outside}
use Rattle.sp_parse_grammar.specs.CTokens as tokens
use Rattle.sp_parse_grammar.specs.CTokens.{Sort, view as viewed, is_mark}
use Rattle.sp_parse_grammar.specs.CTable as grammar
use Rattle.sp_parse_grammar.specs.CTable.{Context, Specified, Declared, Declares, Items, Ask, Answer, ItemAnswer, at, unit, whole, c_symbols, plan, begins_expression}
use Rattle.sp_parse_grammar.specs.Table.{Plan, ask, Reads}
use Rattle.sp_parse_grammar.proofs.Readings.{front_of, spelled, at_tokens}
use Rattle.sp_parse_tokens.specs.Sorts.{Terminal}
use Rattle.sp_parse_tokens.specs.Makers as make
use Rattle.sp_parse_tokens.specs.SyntaxTrees.{syntax_trees, c_table}
use Rattle.sp_parse_tokens.specs.Depths.{Part}
use Rattle.sp_parse_laws.proofs.LevelledAnswers.{scope_of, Fits, LevelledSpecifiers, LevelledDeclarator, LevelledAnswer}
use Rattle.sp_parse_laws.proofs.LevelledChecked.{name_is}
use Rattle.sp_parse_laws.proofs.LevelledSpecifiers.{nothing_so_far}
use Rattle.sp_parse_laws.proofs.LevelledTable.{is_levelled}
use Rattle.sp_parse_laws.proofs.Between.{BetweenAt, none_said, fact_of}
use Rattle.sp_parse_laws.proofs.Shapes.{Shaped, named_shaped, absent_shaped, pointed_shaped, array_shaped, function_shaped, group_shaped, NamesAgree, one_agrees, both_agree}

-- the next token is `else`
abbrev pub is_else : Context → List Terminal → Bool
is_else g [] = false
is_else g (x ∷ xs) = is_mark tokens.else_word (viewed g.types x.sort)

-- A statement before these tokens.
pub record StatementBefore (g : Context) (s : Statement) (ys : List Terminal) : Type 0 where
  pub levelled : IsLevelledStatement (scope_of g) s
  pub closed : is_else g ys ≡ true → ends_open s ≡ false

-- What is behind the first branch of an `if`, with the tokens from which it was read and those left.
pub record ElseBetween (g : Context) (xs : List Terminal) (v : Option Statement) (ys : List Terminal) : Type 0 where
  pub levelled : IsLevelledElse (scope_of g) (make.some_statement v)
  pub chosen : has_else (make.some_statement v) ≡ true → is_else g xs ≡ true
  pub closed : is_else g ys ≡ true → else_ends_open (make.some_statement v) ≡ false

-- An external declaration, with the names that it makes type names.
pub record LevelledExternal (types : List ℕ) (o : Declares syntax_trees) : Type 0 where
  pub levelled : IsLevelledExternal types o.tree
  pub types_are : new_types o.tree ≡ o.types

abbrev pub ItemFact : (g : Context) (i : Part) → List Terminal → ItemAnswer i → List Terminal → Type 0
ItemFact g grammar.statement xs s ys = StatementBefore g s ys
ItemFact g grammar.else_part xs v ys = ElseBetween g xs v ys
ItemFact g (grammar.behind_name y) xs s ys = names_type (scope_of g) (make.number_of y.what.kind) ≡ false → StatementBefore g s ys
ItemFact g (grammar.statements ss) xs ts ys = AreLevelledStatements (scope_of g) (make.all_statements ss) → AreLevelledStatements (scope_of g) (make.all_statements ts)
ItemFact g (grammar.declarator f) xs d ys = Shaped d
ItemFact g (grammar.direct f) xs d ys = Shaped d
ItemFact g (grammar.group f) xs d ys = Shaped d
ItemFact g (grammar.behind_group f y) xs d ys = Shaped d
ItemFact g (grammar.declarator_suffixes d) xs e ys = Shaped d → Shaped e
ItemFact g grammar.item xs is ys = NamesAgree is
ItemFact g (grammar.more_items is) xs js ys = NamesAgree is → NamesAgree js
ItemFact g grammar.external xs o ys = g.inside ≡ false → LevelledExternal g.types o
ItemFact g (grammar.external_items sp) xs o ys = g.inside ≡ false → LevelledSpecifiers g true sp → LevelledExternal g.types o
ItemFact g (grammar.behind_declarator sp d) xs o ys = g.inside ≡ false → LevelledSpecifiers g true sp → LevelledDeclarator g grammar.concrete d → Shaped d → LevelledExternal g.types o
ItemFact g _ xs o ys = ⊤

abbrev pub UnitFact : (n : Ask syntax_trees) → List Terminal → Answer n → List Terminal → Type 0
UnitFact (at g i) xs o ys = ItemFact g i xs o ys
UnitFact (unit types) xs es ys = AreLevelledExternals types es
UnitFact whole xs es ys = AreLevelledExternals [] es

-- what is known of each part
abbrev pub PartFact : (n : Ask syntax_trees) → List Terminal → Answer n → List Terminal → Type 0
PartFact n xs o ys = LevelledAnswer n [] o

abbrev Holds : (g : Context) (i : Part) (xs : List Terminal) → Option (Plan (c_symbols syntax_trees) (at g i)) → Type 0
Holds g i xs o = BetweenAt {S = c_symbols syntax_trees} UnitFact PartFact (at g i) xs o

holds_if : (g : Context) (i : Part) (xs : List Terminal) (b : Bool) (p q : Option (Plan (c_symbols syntax_trees) (at g i))) → (b ≡ true → Holds g i xs p) → (b ≡ false → Holds g i xs q) → Holds g i xs (if b then p else q)
holds_if g i xs true p q first second = first refl
holds_if g i xs false p q first second = second refl

-- ---- statements

jump_levelled : (c : Scope) (b : Bool) → IsLevelledStatementForm c (if b then syntax.break_out else syntax.continue_loop)
jump_levelled c true = tt
jump_levelled c false = tt

jump_closed : (b : Bool) → form_ends_open (if b then syntax.break_out else syntax.continue_loop) ≡ false
jump_closed true = refl
jump_closed false = refl

statements_more : (c : Scope) (ss : List Statement) (s : Statement) → AreLevelledStatements c (make.all_statements ss) → IsLevelledStatement c s → AreLevelledStatements c (make.all_statements (ss ++ s ∷ []))
statements_more c [] s h k = (k, tt)
statements_more c (t ∷ ss) s h k = (h.0, statements_more c ss s h.1 k)

statement_holds : (g : Context) (x : Terminal) (xs : List Terminal) (t : Sort) → viewed g.types x.sort ≡ t → Holds g grammar.statement (x ∷ xs) (plan g grammar.statement x t)
statement_holds g x xs (tokens.name n) v = λ y ys e s zs q p. p (name_is g x n v)
statement_holds g x xs (tokens.mark tokens.semicolon) v = λ y ys e. record { levelled = tt; closed = λ h. refl }
statement_holds g x xs (tokens.mark tokens.brace) v = λ y ys e ds y1 qd pd ss y2 qs ps z y3 ez. record { levelled = (qd tt, ps tt); closed = λ h. refl }
statement_holds g x xs (tokens.mark tokens.case) v = λ y ys e o y1 q p z y2 ez s y3 qs ps.
    let f = q (omega arith) in
    record { levelled = (omega (arith, f.within), f.levelled, ps.levelled); closed = ps.closed }
statement_holds g x xs (tokens.mark tokens.default) v = λ y ys e z y1 ez s y2 qs ps. record { levelled = ps.levelled; closed = ps.closed }
statement_holds g x xs (tokens.mark tokens.if_word) v = λ y ys e w y1 ew o y2 q p z y3 ez a y4 qa pa b y5 qb pb.
    record { levelled = ((q (omega arith)).levelled, pa.levelled, (λ h. pa.closed (pb.chosen h)), pb.levelled); closed = pb.closed }
statement_holds g x xs (tokens.mark tokens.switch) v = λ y ys e w y1 ew o y2 q p z y3 ez s y4 qs ps. record { levelled = ((q (omega arith)).levelled, ps.levelled); closed = ps.closed }
statement_holds g x xs (tokens.mark tokens.while) v = λ y ys e w y1 ew o y2 q p z y3 ez s y4 qs ps. record { levelled = ((q (omega arith)).levelled, ps.levelled); closed = ps.closed }
statement_holds g x xs (tokens.mark tokens.do_word) v = λ y ys e s y1 qs ps w y2 ew u y3 eu o y4 q p z y5 ez k y6 ek. record { levelled = (ps.levelled, (q (omega arith)).levelled); closed = λ h. refl }
statement_holds g x xs (tokens.mark tokens.for) v = λ y ys e w y1 ew a y2 qa pa z y3 ez b y4 qb pb k y5 ek c y6 qc pc u y7 eu s y8 qs ps.
    record { levelled = (qa, qb, qc, ps.levelled); closed = ps.closed }
statement_holds g x xs (tokens.mark tokens.goto) v = λ y ys e n y1 en z y2 ez. record { levelled = tt; closed = λ h. refl }
statement_holds g x xs (tokens.mark tokens.continue) v = λ y ys e z y1 ez. record { levelled = jump_levelled (scope_of g) (make.is_break x.what.kind); closed = λ h. jump_closed (make.is_break x.what.kind) }
statement_holds g x xs (tokens.mark tokens.break) v = λ y ys e z y1 ez. record { levelled = jump_levelled (scope_of g) (make.is_break x.what.kind); closed = λ h. jump_closed (make.is_break x.what.kind) }
statement_holds g x xs (tokens.mark tokens.return) v = λ y ys e a y1 q p z y2 ez. record { levelled = q; closed = λ h. refl }
statement_holds g x xs _ v = λ o ys q p z y1 ez. record { levelled = (q (omega arith)).levelled; closed = λ h. refl }

-- the next token, as the context sees it
next_is : (g : Context) (x : Terminal) (xs : List Terminal) (t : Sort) (b : Bool) → viewed g.types x.sort ≡ t → is_mark tokens.else_word t ≡ b → is_else g (x ∷ xs) ≡ b
next_is g x xs t b v e = ap (is_mark tokens.else_word) v ∙ e

-- ---- declarators

direct_holds : (g : Context) (f : grammar.Form) (x : Terminal) (xs : List Terminal) (t : Sort) → Holds g (grammar.direct f) (x ∷ xs) (grammar.direct_plan g f x t)
direct_holds g grammar.concrete x xs (tokens.name n) = λ y ys e. named_shaped x n
direct_holds g grammar.either x xs (tokens.name n) = λ y ys e. named_shaped x n
direct_holds g grammar.concrete x xs (tokens.mark tokens.opening) = λ y ys e d zs q p. p
direct_holds g grammar.abstract x xs (tokens.mark tokens.opening) = λ y ys e d zs q p. p
direct_holds g grammar.either x xs (tokens.mark tokens.opening) = λ y ys e d zs q p. p
direct_holds g grammar.concrete x xs _ = tt
direct_holds g grammar.abstract x xs _ = absent_shaped grammar.abstract
direct_holds g grammar.either x xs _ = absent_shaped grammar.either

group_holds : (g : Context) (f : grammar.Form) (x : Terminal) (xs : List Terminal) (t : Sort) → Holds g (grammar.group f) (x ∷ xs) (grammar.group_plan g f x t)
group_holds g f x xs (tokens.mark tokens.star) = λ y ys e ks y1 qk pk d y2 q p. pointed_shaped x ks d p
group_holds g f x xs (tokens.mark tokens.opening) = λ y ys e d y1 q p o y2 qo po. po p
group_holds g grammar.concrete x xs (tokens.name n) = λ y ys e o y1 q p. p (named_shaped x n)
group_holds g grammar.either x xs (tokens.name n) = λ y ys e o y1 q p. p (named_shaped x n)
group_holds g grammar.abstract x xs (tokens.mark tokens.bracket) = λ y ys e n y1 q p z y2 ez o y3 qo po. po (array_shaped (grammar.absent_declarator grammar.abstract) x n (absent_shaped grammar.abstract))
group_holds g grammar.either x xs (tokens.mark tokens.bracket) = λ y ys e n y1 q p z y2 ez o y3 qo po. po (array_shaped (grammar.absent_declarator grammar.either) x n (absent_shaped grammar.either))
group_holds g f x xs _ = tt

suffixes_hold : (g : Context) (d : Declared syntax_trees) (x : Terminal) (xs : List Terminal) (t : Sort) → Holds g (grammar.declarator_suffixes d) (x ∷ xs) (plan g (grammar.declarator_suffixes d) x t)
suffixes_hold g d x xs (tokens.mark tokens.bracket) = λ y ys e n y1 q p z y2 ez o y3 qo po h. po (array_shaped d x n h)
suffixes_hold g d x xs (tokens.mark tokens.opening) = λ y ys e ps y1 q p z y2 ez o y3 qo po h. po (function_shaped d x ps z h)
suffixes_hold g d x xs _ = λ h. h

-- ---- external declarations

-- outside a function
outside_is : (g : Context) → g.inside ≡ false → scope_of g ≡ outside g.types
outside_is g e = ap (λ b. record { types = g.types; inside = b }) e

none_new : (b : Bool) (ns : List ℕ) → ns ≡ [] → (if b then ns else []) ≡ []
none_new true ns e = e
none_new false ns e = refl

types_named : (a b : Bool) (ns ms : List ℕ) → a ≡ b → ns ≡ ms → (if a then ns else []) ≡ (if b then ms else [])
types_named a b ns ms e f = ap (λ c. if c then ns else []) e ∙ ap (λ ks. if b then ks else []) f

declaration_external : (g : Context) (sp : Specified syntax_trees) (is : Items syntax_trees) → g.inside ≡ false → LevelledSpecifiers g true sp → AreLevelledItems (scope_of g) (make.all_items is.all) → NamesAgree is
    → LevelledExternal g.types (record { tree = syntax.external_declaration (make.make_declaration sp.all is.all); types = grammar.new_types sp is.names })
declaration_external g sp is out first items names = record {
  levelled = (
    first.list,
    subst (λ c. may_declare c (make.all_specifiers sp.all) ≡ true) (outside_is g out) first.declare,
    subst (λ c. AreLevelledSpecifiers c (make.all_specifiers sp.all)) (outside_is g out) first.each,
    subst (λ c. AreLevelledItems c (make.all_items is.all)) (outside_is g out) items,
  );
  types_are = types_named (declares_types (make.all_specifiers sp.all)) sp.typedefs _ is.names first.typedefs names;
}

no_items_external : (g : Context) (sp : Specified syntax_trees) → g.inside ≡ false → LevelledSpecifiers g true sp → LevelledExternal g.types (record { tree = syntax.external_declaration (make.make_declaration sp.all []); types = [] })
no_items_external g sp out first = record {
  levelled = (
    first.list,
    subst (λ c. may_declare c (make.all_specifiers sp.all) ≡ true) (outside_is g out) first.declare,
    subst (λ c. AreLevelledSpecifiers c (make.all_specifiers sp.all)) (outside_is g out) first.each,
    tt,
  );
  types_are = none_new (declares_types (make.all_specifiers sp.all)) [] refl;
}

one_name : (o : Option ℕ) → named_by o ≡ grammar.with_name o []
one_name None = refl
one_name (Some n) = refl

not_variadic : (a b : Bool) → (a && not b) ≡ true → b ≡ false
not_variadic true true e = absurd cc
not_variadic true false e = refl
not_variadic false b e = absurd cc

definition_external : (g : Context) (sp : Specified syntax_trees) (d : Declared syntax_trees) (x z : Terminal) (ds : List syntax.Declaration) (ss : List Statement) → g.inside ≡ false → LevelledSpecifiers g true sp → LevelledDeclarator g grammar.concrete d → Shaped d → grammar.is_variadic d.shape ≡ false
    → IsLevelledStatement (scope_of (grammar.in_function g)) (syntax_trees.block x ds ss z)
    → LevelledExternal g.types (record { tree = syntax_trees.definition sp.all d.tree (syntax_trees.block x ds ss z); types = grammar.new_types sp (grammar.with_name d.declares []) })
definition_external g sp d x z ds ss out first named shape fixed body = record {
  levelled = (
    first.list,
    subst (λ c. AreLevelledSpecifiers c (make.all_specifiers sp.all)) (outside_is g out) first.each,
    named.names,
    subst (λ c. IsLevelledDeclarator c d.tree) (outside_is g out) named.levelled,
    (shape named.names).0 ∙ fixed,
    refl,
    body,
  );
  types_are = types_named (declares_types (make.all_specifiers sp.all)) sp.typedefs _ _ first.typedefs (ap named_by named.declares ∙ one_name d.declares);
}

-- ---- all asks

first_fits : (g : Context) (e : syntax.Expression) → 15 ≤ level e → IsLevelled (scope_of g) e → Fits g 0 (grammar.operand e true)
first_fits g e h l = record { within = omega (arith, h); unary = λ u. omega (arith, h); levelled = l }

item_holds : (g : Context) (i : Part) (x : Terminal) (xs : List Terminal) (t : Sort) → viewed g.types x.sort ≡ t → Holds g i (x ∷ xs) (plan g i x t)
item_holds g grammar.statement x xs t v = statement_holds g x xs t v
item_holds g grammar.else_part x xs t v = holds_if _ _ (x ∷ xs) (is_mark tokens.else_word t) _ _
    (λ b y ys e s zs q p. record { levelled = p.levelled; chosen = λ h. next_is g x xs t true v b; closed = p.closed })
    (λ b. record { levelled = tt; chosen = λ h. absurd cc; closed = λ h. absurd (false≢true (sym (next_is g x xs t false v b) ∙ h)) })
item_holds g (grammar.behind_name y) x xs t v = holds_if _ _ (x ∷ xs) (is_mark tokens.colon t) _ _
    (λ b z zs e s y1 q p name. record { levelled = (name, p.levelled); closed = p.closed })
    (λ b e ys q p o y1 r s z y2 ez name.
    let suffixed = q (omega arith) name in
    record { levelled = (r 0 refl (first_fits g e suffixed.0 suffixed.1)).levelled; closed = λ h. refl })
item_holds g (grammar.statements ss) x xs t v = holds_if _ _ (x ∷ xs) (begins_expression t || grammar.begins_other t) _ _
    (λ b s ys q p ts zs r more left. more (statements_more (scope_of g) ss s left p.levelled))
    (λ b left. left)
item_holds g (grammar.declarator f) x xs t v = holds_if _ _ (x ∷ xs) (is_mark tokens.star t) _ _
    (λ b y ys e ks y1 qk pk d y2 q p. pointed_shaped x ks d p)
    (λ b d ys q p e zs qe pe. pe p)
item_holds g (grammar.direct f) x xs t v = direct_holds g f x xs t
item_holds g (grammar.group f) x xs t v = group_holds g f x xs t
item_holds g (grammar.behind_group f y) x xs t v = holds_if _ _ (x ∷ xs) (not (grammar.is_concrete f) && grammar.is_parameters t) _ _
    (λ b ps ys q p z zs e. function_shaped (grammar.absent_declarator f) y ps z (absent_shaped f))
    (λ b d ys q p z zs e. group_shaped y d z p)
item_holds g (grammar.declarator_suffixes d) x xs t v = suffixes_hold g d x xs t
item_holds g grammar.item x xs t v = λ d ys q p o zs r s. one_agrees d o q.declares
item_holds g (grammar.more_items is) x xs t v = holds_if _ _ (x ∷ xs) (is_mark tokens.comma t) _ _
    (λ b y ys e i y1 q p js y2 r s left. s (both_agree is i left p))
    (λ b left. left)
item_holds g grammar.external x xs t v = holds_if _ _ (x ∷ xs) (is_mark tokens.semicolon t) _ _
    (λ b y ys e out. record { levelled = tt; types_are = refl })
    (λ b sp ys q p o zs r s out. s out (q (nothing_so_far g true)))
item_holds g (grammar.external_items sp) x xs t v = holds_if _ _ (x ∷ xs) (is_mark tokens.semicolon t) _ _
    (λ b y ys e out first. no_items_external g sp out first)
    (λ b d ys q p o zs r s out first. s out first q p)
item_holds g (grammar.behind_declarator sp d) x xs t v = holds_if _ _ (x ∷ xs) (is_mark tokens.brace t && not (grammar.is_variadic d.shape)) _ _
    (λ b y ys e ds y1 qd pd ss y2 qs ps z y3 ez out first named shape.
    definition_external g sp d x z ds ss out first named shape (not_variadic (is_mark tokens.brace t) (grammar.is_variadic d.shape) b) (qd tt, ps tt))
    (λ b o ys q p is y1 r s z y2 ez out first named shape.
    declaration_external g sp is out first (r ((named.names, named.levelled, q), tt)) (s (one_agrees d o named.declares)))
item_holds g i x xs t v = none_said {S = c_symbols syntax_trees} UnitFact PartFact (at g i) (λ zs o ys. tt) (x ∷ xs) (plan g i x t)

unit_if : (types : List ℕ) (xs : List Terminal) (b : Bool) (p q : Option (Plan (c_symbols syntax_trees) (unit types))) → BetweenAt {S = c_symbols syntax_trees} UnitFact PartFact (unit types) xs p → BetweenAt {S = c_symbols syntax_trees} UnitFact PartFact (unit types) xs q → BetweenAt {S = c_symbols syntax_trees} UnitFact PartFact (unit types) xs (if b then p else q)
unit_if types xs true p q first second = first
unit_if types xs false p q first second = second

each : (n : Ask syntax_trees) (x : Terminal) (xs : List Terminal) → BetweenAt {S = c_symbols syntax_trees} UnitFact PartFact n (x ∷ xs) (c_table.predict n x)
each (at g i) x xs = item_holds g i x xs (viewed g.types x.sort) refl
each (unit types) x xs = unit_if types (x ∷ xs) (is_mark tokens.semicolon (viewed types x.sort) || grammar.begins_specifiers true false (viewed types x.sort)) _ _
    (λ e ys q p es zs r s.
    let here = p refl in
    (here.levelled, subst (λ ns. AreLevelledExternals (types ++ ns) es) (sym here.types_are) s))
    tt
each whole x xs = λ es ys q p z zs e. p

-- what is known of a part doesn't hang on its tokens
any_tokens : (n : Ask syntax_trees) (ws : List Terminal) (a : Answer n) → LevelledAnswer n ws a → LevelledAnswer n [] a
any_tokens (at g i) ws a h = h
any_tokens (unit types) ws a h = tt
any_tokens whole ws a h = tt

part_levelled : (n : Ask syntax_trees) (xs ys : List Terminal) (a : Answer n) → Reads c_table n (ask n) xs a ys → PartFact n xs a ys
part_levelled n xs ys a r = any_tokens n (front_of r) a (is_levelled n (front_of r) ys a (at_tokens (spelled r) r))

-- What is read is levelled.
pub units_levelled : (n : Ask syntax_trees) (xs ys : List Terminal) (a : Answer n) → Reads c_table n (ask n) xs a ys → UnitFact n xs a ys
units_levelled n xs ys a r = fact_of c_table UnitFact PartFact part_levelled each r
