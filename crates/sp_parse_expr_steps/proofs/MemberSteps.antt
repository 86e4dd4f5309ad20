-- Members of structures and their declarators, over plain variables.
use Rattle.std.proofs.Common.{◌≡◌, ℕ, ◌≤◌, true, false, List, [], ◌∷◌, ◌++◌, map, length, None, refl, sym, ap, ◌∙◌, subst, arith}
use Rattle.std.specs.Prelude.{max}
use Rattle.sp_tree.specs.declared.fault.Place.{Place}
use Rattle.sp_tree.specs.declared.token.Token.{Token}
use Rattle.sp_parse_trees.specs.Syntax as syntax
use Rattle.sp_parse_trees.specs.Syntax.{Declaration, InitDeclarator}
use Rattle.sp_parse_trees.specs.declared.tree.InitDeclarator.{InitDeclarator as CodeItem}
use Rattle.sp_parse_trees.specs.View.{declarator_of, specifiers_of, init_declarators}
use Rattle.sp_parse_trees.specs.Depth.{declarator_depth, items_depth}
use Rattle.sp_parse_tokens.specs.declared.part.Declared.{Declared}
use Rattle.sp_parse_tokens.specs.declared.part.MemberDeclarators.{MemberDeclarators}
use Rattle.sp_parse_tokens.specs.declared.part.SpecifierList.{SpecifierList}
use Rattle.sp_parse_tokens.specs.declared.scope.Scope.{Scope}
use Rattle.sp_parse_tokens.specs.declared.scope.AlsoAllowed.{AlsoAllowed}
use Rattle.sp_parse_grammar.specs.CTokens as tokens
use Rattle.sp_parse_grammar.specs.CTokens.{view, is_mark}
use Rattle.sp_parse_grammar.specs.CTable as grammar
use Rattle.sp_parse_grammar.specs.CTable.{Context, at, c_symbols, get, next, close_by, one_item, both_items}
use Rattle.sp_parse_grammar.specs.CTrees.{TokenOf}
use Rattle.sp_parse_grammar.specs.Table.{Plan, done}
use Rattle.sp_parse_tokens.specs.Sorts.{sort_of, c_tokens}
use Rattle.sp_parse_tokens.specs.SyntaxTrees.{syntax_trees}
use Rattle.sp_parse_tokens.specs.Makers.{SpecifierAt, all_items, all_specifiers, make_declaration, first_place}
use Rattle.sp_parse_tokens.specs.Ended.{IsEnded}
use Rattle.sp_parse_tokens.proofs.Settled.{items_both}
use Rattle.sp_parse_tokens.specs.Scopes.{there, allowed_seen}
use Rattle.sp_parse_expr_steps.specs.Reading.{IsRead, IsStep}
use Rattle.sp_parse_tokens.specs.Expecting.{IsExpected}
use Rattle.sp_parse_expr_steps.specs.Declaring.{declared_seen, item_seen, AreItems, AreSpecified, ItemsSoFar}
use Rattle.sp_parse_expr_steps.proofs.Steps.{begun, got, last, finished}
use Rattle.sp_parse_expr_steps.proofs.Parts.{IsOn, on_mark}
use Rattle.sp_parse_expr_steps.proofs.ExpressionSteps.{built}
use Rattle.sp_parse_expr_steps.proofs.DeclaratorSteps.{same_on}
use Rattle.sp_parse_expr_steps.proofs.ListSteps.{choice_ends, choice_taken, map_more}

-- ---- declarators of members

abbrev pub first_items : Declared → grammar.Items syntax_trees
first_items d = one_item (declared_seen d (declarator_of d.tree)) None

abbrev pub items_seen : List CodeItem → List ℕ → AlsoAllowed → grammar.Items syntax_trees
items_seen items names p = record { all = map item_seen items; names = names; behind = allowed_seen p }

items_same : {xs ys : List InitDeclarator} {m n : List ℕ} {p q : grammar.AlsoAllowed} → xs ≡ ys → m ≡ n → p ≡ q → ◌≡◌ {A = grammar.Items syntax_trees} (record { all = xs; names = m; behind = p }) (record { all = ys; names = n; behind = q })
items_same e f h = cc

pub first_item : (g : Context) (d : Declared) (text : List Token) (items : List CodeItem) (i : CodeItem) (p : AlsoAllowed) → items ≡ i ∷ [] → item_seen i ≡ syntax.init_declarator (declarator_of d.tree) syntax.no_init → allowed_seen p ≡ grammar.closed (allowed_seen d.behind) → ItemsSoFar g d text items p text
first_item g d text items i p all one behind =
    let names = (first_items d).names in
    let same : items_seen items names p ≡ first_items d = items_same (ap (λ v. map item_seen v) all ∙ ap (λ v. v ∷ []) one) refl behind in
    record { names = names; step = subst (λ v. IsStep g (grammar.member_items (first_items d)) (grammar.member_items v) (λ a. a) text text) (sym same) (begun (at g (grammar.member_items (first_items d))) (c_tokens text)) }

pub more_item_deep : (d : Declared) (items now : List CodeItem) (i : CodeItem) (m n k : ℕ) → now ≡ items ++ i ∷ [] → item_seen i ≡ syntax.init_declarator (declarator_of d.tree) syntax.no_init → m ≡ items_depth (all_items (map item_seen items)) → n ≡ declarator_depth (declarator_of d.tree) → k ≡ max m n → k ≡ items_depth (all_items (map item_seen now))
more_item_deep d items now i m n k same one deep item both =
    let new = syntax.init_declarator (declarator_of d.tree) syntax.no_init in
    let here : items_depth (all_items (map item_seen now)) ≡ items_depth (all_items (map item_seen items ++ new ∷ [])) = ap (λ v. items_depth (all_items v)) (ap (λ v. map item_seen v) same ∙ map_more item_seen items i ∙ ap (λ v. map item_seen items ++ v ∷ []) one) in
    let last_deep : items_depth (all_items (new ∷ [])) ≡ n = omega (arith, item) in
    omega (arith, here, items_both (map item_seen items) (new ∷ []), last_deep, deep, both)

module _ (g : Context) (first : Declared) (text rest xs : List Token) (x : Token) (items : List CodeItem) (behind : AlsoAllowed) (t : ItemsSoFar g first text items behind rest) (e : rest ≡ x ∷ xs) where
  abbrev pub items_more : grammar.Declared syntax_trees → Plan (c_symbols syntax_trees) (at g (grammar.member_items (items_seen items t.names behind)))
  items_more d = get g (grammar.member_items (both_items (items_seen items t.names behind) (one_item d None))) (λ js. done js)

  pub items_on : is_mark tokens.comma (view g.types (sort_of x.kind)) ≡ true → IsOn g g (grammar.member_items (first_items first)) (grammar.member_items (items_seen items t.names behind)) (λ a. a) (get g (grammar.declarator grammar.concrete) items_more) text xs
  items_on stands = choice_taken g (grammar.member_items (first_items first)) (grammar.member_items (items_seen items t.names behind)) (λ a. a) text rest xs x t.step e (is_mark tokens.comma (view g.types (sort_of x.kind))) (items_seen items t.names behind) (λ y. get g (grammar.declarator grammar.concrete) items_more) refl stands

  pub items_end : (d n : ℕ) (is : MemberDeclarators) → is_mark tokens.comma (view g.types (sort_of x.kind)) ≡ false → is.all.items ≡ items → is.behind ≡ behind → n ≡ items_depth (all_items (map item_seen items)) → n ≤ d → IsEnded rest → length rest ≤ length text → AreItems g first d text is n rest
  items_end d n is other all back deep shallow ended fewer = record {
    names = t.names;
    read = built g (grammar.member_items (first_items first)) d n text rest (items_seen items t.names behind) (items_seen is.all.items t.names is.behind) (choice_ends g (grammar.member_items (first_items first)) (grammar.member_items (items_seen items t.names behind)) (λ a. a) text rest xs x t.step e (is_mark tokens.comma (view g.types (sort_of x.kind))) (items_seen items t.names behind) (next (λ y. get g (grammar.declarator grammar.concrete) items_more)) refl other) (items_same (ap (λ v. map item_seen v) all) refl (ap allowed_seen back)) deep shallow ended (omega (arith, fewer));
  }

  pub next_item : (d n : ℕ) (later : List Token) (next_one : Declared) (now : List CodeItem) (i : CodeItem) (back : AlsoAllowed) → is_mark tokens.comma (view g.types (sort_of x.kind)) ≡ true → IsRead g (grammar.declarator grammar.concrete) d xs (declared_seen next_one (declarator_of next_one.tree)) n later → now ≡ items ++ i ∷ [] → item_seen i ≡ syntax.init_declarator (declarator_of next_one.tree) syntax.no_init → allowed_seen back ≡ grammar.closed (allowed_seen next_one.behind) → ItemsSoFar g first text now back later
  next_item d n later next_one now i back stands read same one closed =
      let both = both_items (items_seen items t.names behind) (first_items next_one) in
      let seen : items_seen now both.names back ≡ both = items_same (ap (λ v. map item_seen v) same ∙ map_more item_seen items i ∙ ap (λ v. map item_seen items ++ v ∷ []) one) refl closed in
      record { names = both.names; step = subst (λ v. IsStep g (grammar.member_items (first_items first)) (grammar.member_items v) (λ a. a) text later) (sym seen) (last (got (items_on stands) read.reads)) }

-- ---- members

abbrev pub member_done : (g : Context) (ss : List SpecifierAt) (is : List InitDeclarator) → TokenOf syntax_trees → Plan (c_symbols syntax_trees) (at g grammar.member)
member_done g ss is y = done (make_declaration ss is)

abbrev pub member_closing : (g : Context) (ss : List SpecifierAt) (is : grammar.Items syntax_trees) → Plan (c_symbols syntax_trees) (at g grammar.member)
member_closing g ss is = close_by g is.behind tokens.semicolon (member_done g ss is.all)

abbrev pub member_more : (g : Context) (ss : List SpecifierAt) (d : grammar.Declared syntax_trees) → Plan (c_symbols syntax_trees) (at g grammar.member)
member_more g ss d = get g (grammar.member_items (one_item d None)) (member_closing g ss)

abbrev pub member_behind : (g : Context) (sp : grammar.Specified syntax_trees) → Plan (c_symbols syntax_trees) (at g grammar.member)
member_behind g sp = get g (grammar.declarator grammar.concrete) (member_more g sp.all)

pub member_begun : (g : Context) (text : List Token) → IsEnded text → IsOn g g grammar.member grammar.member (λ a. a) (get g (grammar.specifiers false tokens.nothing_seen grammar.no_specifiers) (member_behind g)) text text
member_begun g text ended = same_on g grammar.member text (get g (grammar.specifiers false tokens.nothing_seen grammar.no_specifiers) (member_behind g)) ended (λ x s. refl)

items_listed : (is : List InitDeclarator) → init_declarators is ≡ all_items is
items_listed [] = refl
items_listed (i ∷ is) = ap (λ v. syntax.next_item i v) (items_listed is)

pub member_read : (types : List ℕ) (scope : Scope) (d m n k : ℕ) (text mid far last_tokens rest : List Token) (ss : SpecifierList) (first : Declared) (is : MemberDeclarators) (a : ℕ) (place : Place) (made : Declaration) → IsEnded text → (h : AreSpecified (there types scope) false d text ss m mid) → IsRead (there types scope) (grammar.declarator grammar.concrete) d mid (declared_seen first (declarator_of first.tree)) a far → (w : AreItems (there types scope) first d far is n last_tokens) → IsExpected types tokens.semicolon last_tokens rest → k ≡ max m n → place ≡ first_place text → made ≡ syntax.declaration (specifiers_of ss.all.items) (init_declarators (map item_seen is.all.items)) place → IsRead (there types scope) grammar.member d text made k rest
member_read types scope d m n k text mid far last_tokens rest ss first is a place made ended h one w closes both at_first same =
    let g = there types scope in
    let items = items_seen is.all.items w.names is.behind in
    let on = got (got (got (member_begun g text ended) h.read.reads) one.reads) w.read.reads in
    let whole : made ≡ make_declaration h.all (map item_seen is.all.items) = same ∙ (ap (λ v. syntax.declaration v (init_declarators (map item_seen is.all.items)) place) h.same ∙ (ap (λ v. syntax.declaration (all_specifiers h.all) v place) (items_listed (map item_seen is.all.items)) ∙ ap (λ v. syntax.declaration (all_specifiers h.all) (all_items (map item_seen is.all.items)) v) (at_first ∙ sym h.place))) in
    let less : length last_tokens ≡ length (closes.first ∷ rest) = ap length closes.whole in
    built g grammar.member d k text rest (make_declaration h.all (map item_seen is.all.items)) made (finished (on_mark types scope g grammar.member grammar.member (λ v. v) tokens.semicolon is.behind (member_done g h.all (map item_seen is.all.items)) g text last_tokens rest on closes)) whole (omega (arith, both, h.read.deep, w.read.deep)) (omega (arith, both, h.read.shallow, w.read.shallow)) closes.ended (omega (arith, h.fewer, one.fewer, w.read.fewer, less))
