-- Each production of statements, external declarations and units spells what it reads.
use Rattle.std.proofs.Common.{◌≡◌, ℕ, Bool, true, false, List, [], ◌∷◌, ◌++◌, length, Option, refl, sym, ap, ◌∙◌, subst, arith}
use Rattle.std.specs.Prelude.{⊤, if◌then◌else◌, is_some, ◌||◌, ◌&&◌, not}
use Rattle.std.proofs.lemmas.List.{append_assoc, append-nil, map-append}
use Rattle.sp_parse_trees.specs.Syntax as syntax
use Rattle.sp_parse_trees.specs.Syntax.{Declarator, Statement, External}
use Rattle.sp_parse_trees.specs.Spelling.{specifiers_tokens, declarator_tokens, external_tokens, unit_tokens}
use Rattle.sp_parse_trees.specs.Places.{PlacedDeclarator, PlacedExternal, PlacedUnit, behind, past}
use Rattle.sp_parse_trees.specs.Levels.{declared_name}
use Rattle.sp_parse_grammar.specs.CTokens as tokens
use Rattle.sp_parse_grammar.specs.CTokens.{Sort, view as viewed, is_mark}
use Rattle.sp_parse_grammar.specs.CTable as grammar
use Rattle.sp_parse_grammar.specs.CTable.{Context, Specified, Declared, Ask, Answer, ItemAnswer, at, unit, whole, c_symbols, plan, begins_expression}
use Rattle.sp_parse_grammar.specs.Table.{Plan, ask, Reads}
use Rattle.sp_parse_grammar.proofs.Readings.{front_of, spelled, at_tokens}
use Rattle.sp_parse_tokens.specs.Sorts.{Terminal}
use Rattle.sp_parse_tokens.specs.Makers as make
use Rattle.sp_parse_tokens.specs.SyntaxTrees.{syntax_trees, c_table}
use Rattle.sp_parse_tokens.specs.Depths.{Part}
use Rattle.sp_parse_laws.specs.Spelled.{Agrees, Spelled}
use Rattle.sp_parse_laws.proofs.TokenKinds.{at_sort, at_viewed, at_mark, at_name}
use Rattle.sp_parse_laws.proofs.Spelling.{split, counted, name_spelled}
use Rattle.sp_parse_laws.proofs.SpellingLists as lists
use Rattle.sp_parse_laws.proofs.SpellingLists.{SDeclarations, SStatements, SItems}
use Rattle.sp_parse_laws.proofs.SpellingDeclarators as d
use Rattle.sp_parse_laws.proofs.SpellingDeclarators.{SD, SStart}
use Rattle.sp_parse_laws.proofs.SpelledAnswers.{SpelledAnswer, SSpecifiers, IsName, none_yet}
use Rattle.sp_parse_laws.proofs.SpelledTable.{is_spelled}
use Rattle.sp_parse_laws.proofs.Also.{AlsoAt, none_said, also_front}
use Rattle.sp_parse_laws.proofs.Statements as made
use Rattle.sp_parse_laws.proofs.Statements.{SS, SElse}

abbrev pub SExternal : List Terminal → External → Type 0
SExternal ws e = Spelled external_tokens PlacedExternal ws e

abbrev pub SUnit : List Terminal → List External → Type 0
SUnit ws es = Spelled unit_tokens PlacedUnit ws es

-- a declarator of a name
abbrev SNamed : List Terminal → Declarator → Type 0
SNamed ws e = SD ws e × (is_some (declared_name e) ≡ true)

abbrev pub UnitItem : (i : Part) → List Terminal → ItemAnswer i → Type 0
UnitItem grammar.statement ws s = SS ws s
UnitItem grammar.else_part ws v = SElse ws v
UnitItem (grammar.behind_name y) ws s = IsName y → SS (y ∷ ws) s
UnitItem (grammar.statements ss) ws ts = (us : List Terminal) → SStatements us ss → SStatements (us ++ ws) ts
UnitItem grammar.external ws e = SExternal ws e.tree
UnitItem (grammar.external_items sp) ws e = (us : List Terminal) → SSpecifiers us sp.all → SExternal (us ++ ws) e.tree
UnitItem (grammar.behind_declarator sp e) ws o = (us vs : List Terminal) → SSpecifiers us sp.all → SNamed vs e.tree → SExternal (us ++ (vs ++ ws)) o.tree
UnitItem _ ws o = ⊤

abbrev pub UnitAnswer : (n : Ask syntax_trees) → List Terminal → Answer n → Type 0
UnitAnswer (at g i) ws o = UnitItem i ws o
UnitAnswer (unit types) ws es = SUnit ws es
UnitAnswer whole ws es = (vs : List Terminal) × (z : Terminal) × (ws ≡ vs ++ z ∷ []) × SUnit vs es

abbrev Holds : (g : Context) (i : Part) (x : Terminal) → Option (Plan (c_symbols syntax_trees) (at g i)) → Type 0
Holds g i x o = AlsoAt UnitAnswer SpelledAnswer (at g i) x o

holds_if : (g : Context) (i : Part) (x : Terminal) (b : Bool) (p q : Option (Plan (c_symbols syntax_trees) (at g i))) → (b ≡ true → Holds g i x p) → (b ≡ false → Holds g i x q) → Holds g i x (if b then p else q)
holds_if g i x true p q first second = first refl
holds_if g i x false p q first second = second refl

no_declarations : SDeclarations [] []
no_declarations = record { spells = refl; places = λ spots h. tt }

-- specifiers read from nothing
from_nothing : (us : List Terminal) (o : Specified syntax_trees) → SpelledAnswer (at (grammar.outside []) (grammar.specifiers true tokens.nothing_seen grammar.no_specifiers)) us o → SSpecifiers us o.all
from_nothing us o p = p [] none_yet (λ e. absurd cc)

-- ---- statements

between : (vs : List Terminal) (z : Terminal) (ws : List Terminal) → (vs ++ z ∷ []) ++ ws ≡ vs ++ z ∷ ws
between vs z ws = append_assoc vs (z ∷ []) ws

statement_holds : (g : Context) (x : Terminal) (t : Sort) → viewed g.types x.sort ≡ t → Holds g grammar.statement x (plan g grammar.statement x t)
statement_holds g x (tokens.name n) v = λ taken vs s q p. p (n, (at_sort g.types x (tokens.name n) v).0)
statement_holds g x (tokens.mark tokens.semicolon) v = λ taken. made.empty_spelled x (at_sort g.types x (tokens.mark tokens.semicolon) v)
statement_holds g x (tokens.mark tokens.brace) v = λ taken us ds qd pd vs ss qs ps z tz.
    subst (λ w. SS (x ∷ w) (syntax_trees.block x ds ss z)) (sym (append_assoc us vs (z ∷ [])))
    (made.block_spelled x us vs z ds ss (at_sort g.types x (tokens.mark tokens.brace) v) (qd [] no_declarations) (ps [] lists.statements_none) (at_mark tokens.unbrace z tz))
statement_holds g x (tokens.mark tokens.case) v = λ taken vs o q p z tz ws s qs ps.
    subst (λ w. SS (x ∷ w) (syntax_trees.case x o.tree s)) (sym (between vs z ws)) (made.case_spelled x vs z ws o.tree s (at_sort g.types x (tokens.mark tokens.case) v) (q (omega arith)) (at_mark tokens.colon z tz) ps)
statement_holds g x (tokens.mark tokens.default) v = λ taken z tz ws s qs ps. made.default_spelled x z ws s (at_sort g.types x (tokens.mark tokens.default) v) (at_mark tokens.colon z tz) ps
statement_holds g x (tokens.mark tokens.if_word) v = λ taken y ty vs o q p z tz us a qa pa ws b qb pb.
    subst (λ w. SS (x ∷ y ∷ w) (syntax_trees.if_else x o.tree a b)) (sym (append_assoc (vs ++ z ∷ []) us ws ∙ between vs z (us ++ ws)))
    (made.if_spelled x y vs z us ws o.tree a b (at_sort g.types x (tokens.mark tokens.if_word) v) (at_mark tokens.opening y ty) (q (omega arith)) (at_mark tokens.closing z tz) pa pb)
statement_holds g x (tokens.mark tokens.switch) v = λ taken y ty vs o q p z tz ws s qs ps.
    subst (λ w. SS (x ∷ y ∷ w) (syntax_trees.switch x o.tree s)) (sym (between vs z ws)) (made.switch_spelled x y vs z ws o.tree s (at_sort g.types x (tokens.mark tokens.switch) v) (at_mark tokens.opening y ty) (q (omega arith)) (at_mark tokens.closing z tz) ps)
statement_holds g x (tokens.mark tokens.while) v = λ taken y ty vs o q p z tz ws s qs ps.
    subst (λ w. SS (x ∷ y ∷ w) (syntax_trees.while x o.tree s)) (sym (between vs z ws)) (made.while_spelled x y vs z ws o.tree s (at_sort g.types x (tokens.mark tokens.while) v) (at_mark tokens.opening y ty) (q (omega arith)) (at_mark tokens.closing z tz) ps)
statement_holds g x (tokens.mark tokens.do_word) v = λ taken us s qs ps w tw y ty vs o q p z tz u tu.
    let order : ((((us ++ w ∷ []) ++ y ∷ []) ++ vs) ++ z ∷ []) ++ u ∷ [] ≡ us ++ w ∷ y ∷ (vs ++ z ∷ u ∷ []) = simp (append_assoc) refl in
    subst (λ w. SS (x ∷ w) (syntax_trees.do_while x s o.tree u)) (sym order)
    (made.do_spelled x us w y vs z u s o.tree (at_sort g.types x (tokens.mark tokens.do_word) v) ps (at_mark tokens.while w tw) (at_mark tokens.opening y ty) (q (omega arith)) (at_mark tokens.closing z tz) (at_mark tokens.semicolon u tu))
statement_holds g x (tokens.mark tokens.for) v = λ taken y ty ps a qa pa w tw qs b qb pb k tk rs c qc pc u tu ws s qd pd.
    let order : (((((ps ++ w ∷ []) ++ qs) ++ k ∷ []) ++ rs) ++ u ∷ []) ++ ws ≡ ps ++ w ∷ (qs ++ k ∷ (rs ++ u ∷ ws)) = simp (append_assoc) refl in
    subst (λ w. SS (x ∷ y ∷ w) (syntax_trees.for x a b c s)) (sym order)
    (made.for_spelled x y ps w qs k rs u ws a b c s (at_sort g.types x (tokens.mark tokens.for) v) (at_mark tokens.opening y ty) qa (at_mark tokens.semicolon w tw) qb (at_mark tokens.semicolon k tk) qc (at_mark tokens.closing u tu) pd)
statement_holds g x (tokens.mark tokens.goto) v = λ taken n tn z tz. let name = at_name n tn in made.goto_spelled x n z name.0 (at_sort g.types x (tokens.mark tokens.goto) v) name.1 (at_mark tokens.semicolon z tz)
statement_holds g x (tokens.mark tokens.continue) v = λ taken z tz. made.continue_spelled x z (at_sort g.types x (tokens.mark tokens.continue) v) (at_mark tokens.semicolon z tz)
statement_holds g x (tokens.mark tokens.break) v = λ taken z tz. made.break_spelled x z (at_sort g.types x (tokens.mark tokens.break) v) (at_mark tokens.semicolon z tz)
statement_holds g x (tokens.mark tokens.return) v = λ taken vs a q p z tz. made.return_spelled x vs z a (at_sort g.types x (tokens.mark tokens.return) v) q (at_mark tokens.semicolon z tz)
statement_holds g x _ v = λ vs o q p z tz. made.of_spelled vs z o.tree (q (omega arith)) (at_mark tokens.semicolon z tz)

-- ---- external declarations

declared : {ws : List Terminal} (e : syntax.Declaration) → d.SDeclaration ws e → SExternal ws (syntax.external_declaration e)
declared e r = record { spells = r.spells; places = r.places }

definition_spelled : (us vs ws : List Terminal) (ss : List make.SpecifierAt) (e : Declarator) (s : Statement) → SSpecifiers us ss → SNamed vs e → SS ws s → SExternal (us ++ (vs ++ ws)) (syntax.definition (make.all_specifiers ss) e s)
definition_spelled us vs ws ss e s l m r =
    let first = l.all in
    let named = m.0 in
    record {
      spells = simp (map-append, append_assoc, first.spells, named.spells, r.spells) refl;
      places = λ spots h.
          let a = split spots us (vs ++ ws) h in
          let right = subst (λ n. Agrees (behind n spots) (vs ++ ws)) (sym (counted us ss first)) a.1 in
          let now = past (specifiers_tokens (make.all_specifiers ss)) spots in
          let b = split now vs ws right in
          let size : length (declarator_tokens e) ≡ length vs = d.pending_counted vs e named in
          let there = named.places now (now (length vs)) b.0 refl in
          let placed : PlacedDeclarator now e = subst (λ v. PlacedDeclarator now v) (d.settled (now (length vs)) e m.1) there in
          (first.places spots a.0, placed, r.places (past (declarator_tokens e) now) (subst (λ n. Agrees (behind n now) ws) (sym size) b.1));
    }

one_item : (us ws : List Terminal) (e : Declared syntax_trees) (v : Option syntax_trees.Init) → SNamed us e.tree → SStart ws v → SItems (us ++ ws) (make.make_item e.tree v ∷ [])
one_item us ws e v p q = lists.items_one (us ++ ws) (make.make_item e.tree v) (d.item_spelled us ws e.tree v p.0 p.1 q)

item_holds : (g : Context) (i : Part) (x : Terminal) (t : Sort) → viewed g.types x.sort ≡ t → Holds g i x (plan g i x t)
item_holds g grammar.statement x t v = statement_holds g x t v
item_holds g grammar.else_part x t v = holds_if _ _ x (is_mark tokens.else_word t) _ _
    (λ b taken ws s q p. made.else_some x ws s (at_viewed g.types x tokens.else_word t v b) p)
    (λ b. made.else_none)
item_holds g (grammar.behind_name y) x t v = holds_if _ _ x (is_mark tokens.colon t) _ _
    (λ b taken ws s q p name. made.label_spelled y x ws name.0 s name.1 (at_viewed g.types x tokens.colon t v b) p)
    (λ b us e q p ws o r s z tz name.
    let head = q (y ∷ []) (name_spelled y name.0 name.1) in
    made.of_spelled (y ∷ (us ++ ws)) z o.tree (r (omega arith) (y ∷ us) head) (at_mark tokens.semicolon z tz))
item_holds g (grammar.statements ss) x t v = holds_if _ _ x (begins_expression t || grammar.begins_other t) _ _
    (λ b vs s q p ws ts r more us left. subst (λ w. SStatements w ts) (append_assoc us vs ws) (more (us ++ vs) (lists.statements_more us vs ss s left p)))
    (λ b us left. subst (λ w. SStatements w ss) (sym (append-nil us)) left)
item_holds g grammar.external x t v = holds_if _ _ x (is_mark tokens.semicolon t) _ _
    (λ b taken. record { spells = ap (λ k. k ∷ []) (sym (at_viewed g.types x tokens.semicolon t v b)); places = λ spots h. tt })
    (λ b us sp q p ws o r s. s us (from_nothing us sp q))
item_holds g (grammar.external_items sp) x t v = holds_if _ _ x (is_mark tokens.semicolon t) _ _
    (λ b taken us first. declared (make.make_declaration sp.all []) (d.declaration_spelled us [] x sp.all [] first.all first.first (record { spells = refl; places = λ spots h. tt }) (at_viewed g.types x tokens.semicolon t v b)))
    (λ b vs e q p ws o r s us first. s us vs first q)
item_holds g (grammar.behind_declarator sp e) x t v = holds_if _ _ x (is_mark tokens.brace t && not (grammar.is_variadic e.shape)) _ _
    (λ b taken ds es qd pd ss ts qs ps z tz us vs first named.
    let body = made.block_spelled x ds ss z es ts (at_viewed g.types x tokens.brace t v (and_left _ _ b)) (qd [] no_declarations) (ps [] lists.statements_none) (at_mark tokens.unbrace z tz) in
    let order : (ds ++ ss) ++ z ∷ [] ≡ ds ++ (ss ++ z ∷ []) = append_assoc ds ss (z ∷ []) in
    subst (λ w. SExternal (us ++ (vs ++ x ∷ w)) (syntax.definition (make.all_specifiers sp.all) e.tree (syntax_trees.block x es ts z))) (sym order) (definition_spelled us vs (x ∷ (ds ++ (ss ++ z ∷ []))) sp.all e.tree (syntax_trees.block x es ts z) first named body))
    (λ b as1 o q p bs is r s z tz us vs first named.
    let items = r (vs ++ as1) tt (one_item vs as1 e o named q) in
    let order : us ++ (((vs ++ as1) ++ bs) ++ z ∷ []) ≡ us ++ (vs ++ ((as1 ++ bs) ++ z ∷ [])) = simp (append_assoc) refl in
    subst (λ w. SExternal w (syntax.external_declaration (make.make_declaration sp.all is.all))) order (declared (make.make_declaration sp.all is.all) (d.declaration_spelled us ((vs ++ as1) ++ bs) z sp.all is.all first.all first.first items (at_mark tokens.semicolon z tz))))
  where
    and_left : (a b : Bool) → (a && b) ≡ true → a ≡ true
    and_left true b e = refl
    and_left false b e = absurd cc
item_holds g i x t v = none_said UnitAnswer SpelledAnswer (at g i) (λ ws o. tt) x (plan g i x t)

-- ---- units

unit_more : (us vs : List Terminal) (e : External) (es : List External) → SExternal us e → SUnit vs es → SUnit (us ++ vs) (e ∷ es)
unit_more us vs e es l r = record {
  spells = simp (map-append, l.spells, r.spells) refl;
  places = λ spots h.
      let a = split spots us vs h in
      (l.places spots a.0, r.places _ (subst (λ n. Agrees (behind n spots) vs) (sym (counted us e l)) a.1));
}

unit_if : (types : List ℕ) (x : Terminal) (b : Bool) (p q : Option (Plan (c_symbols syntax_trees) (unit types))) → AlsoAt UnitAnswer SpelledAnswer (unit types) x p → AlsoAt UnitAnswer SpelledAnswer (unit types) x q → AlsoAt UnitAnswer SpelledAnswer (unit types) x (if b then p else q)
unit_if types x true p q first second = first
unit_if types x false p q first second = second

each : (n : Ask syntax_trees) (x : Terminal) → AlsoAt UnitAnswer SpelledAnswer n x (c_table.predict n x)
each (at g i) x = item_holds g i x (viewed g.types x.sort) refl
each (unit types) x = unit_if types x (is_mark tokens.semicolon (viewed types x.sort) || grammar.begins_specifiers true false (viewed types x.sort)) _ _
    (λ us e q p vs es r s. unit_more us vs e.tree es p s)
    (record { spells = refl; places = λ spots h. tt })
each whole x = λ vs es q p z tz. (vs, z, refl, p)

-- what is known of each part
part_spelled : (n : Ask syntax_trees) (xs ys : List Terminal) (a : Answer n) (r : Reads c_table n (ask n) xs a ys) → SpelledAnswer n (front_of r) a
part_spelled n xs ys a r = is_spelled n (front_of r) ys a (at_tokens (spelled r) r)

-- What is read spells its tokens.
pub units_spelled : (n : Ask syntax_trees) (front ys : List Terminal) (a : Answer n) → Reads c_table n (ask n) (front ++ ys) a ys → UnitAnswer n front a
units_spelled n front ys a r = also_front c_table UnitAnswer SpelledAnswer part_spelled each front ys a r
