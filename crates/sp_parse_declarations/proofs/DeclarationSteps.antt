-- The steps of the readers of declarations and their declarators, over plain variables.
use Rattle.std.proofs.Common.{Result, Ok, Err, ◌≡◌, ℕ, ◌≤◌, ◌<◌, Bool, true, false, List, [], ◌∷◌, ◌++◌, length, Some, None, refl, sym, ap, ◌∙◌, subst, arith}
use Rattle.std.specs.Prelude.{MatchResult, max, Option, if◌then◌else◌}
use Rattle.sp_tree.specs.declared.fault.Place.{Place}
use Rattle.sp_tree.specs.declared.token.Token.{Token}
use Rattle.sp_parse_trees.specs.Syntax as syntax
use Rattle.sp_parse_trees.specs.Syntax.{Declaration, Init, InitDeclarator}
use Rattle.sp_parse_trees.specs.View.{declarator_of, specifiers_of, init_declarators, declarations}
use Rattle.sp_parse_trees.specs.Depth.{items_depth, declarations_depth}
use Rattle.sp_parse_tokens.specs.declared.part.Declared.{Declared}
use Rattle.sp_parse_tokens.specs.declared.part.Part.{Part}
use Rattle.sp_parse_tokens.specs.declared.part.ReadError.{ReadError}
use Rattle.sp_parse_tokens.specs.declared.part.SpecifierList.{SpecifierList}
use Rattle.sp_parse_tokens.specs.declared.scope.Scope.{Scope}
use Rattle.sp_parse_tokens.specs.declared.scope.AlsoAllowed.{AlsoAllowed}
use Rattle.sp_parse_tokens.specs.declared.scope.AlsoAllowed.TheVariants as also
use Rattle.sp_parse_grammar.specs.CTokens as tokens
use Rattle.sp_parse_grammar.specs.CTokens.{Sort, view, is_mark}
use Rattle.sp_parse_grammar.specs.CTable as grammar
use Rattle.sp_parse_grammar.specs.CTable.{Context, Items, at, c_symbols, plan, get, next, close_by, one_item, both_items, no_items, begins_items, begins_specifiers}
use Rattle.sp_parse_grammar.specs.CTrees.{TokenOf}
use Rattle.sp_parse_grammar.specs.Table.{Plan, done, ask, asked, Reads, Opens, open_take, open_call}
use Rattle.sp_parse_grammar.specs.Depth.{Nests, nests, deep_here}
use Rattle.sp_parse_tokens.specs.Sorts.{terminal, sort_of, c_tokens}
use Rattle.sp_parse_tokens.specs.SyntaxTrees.{syntax_trees, c_table}
use Rattle.sp_parse_tokens.specs.Depths.{c_depths, declarator_least}
use Rattle.sp_parse_tokens.specs.Makers.{SpecifierAt, all_items, all_specifiers, make_declaration, first_place}
use Rattle.sp_parse_tokens.specs.Ended.{IsEnded}
use Rattle.sp_parse_tokens.specs.Expecting.{IsExpected, IsFaultFor}
use Rattle.sp_parse_tokens.specs.Scopes.{there, allowed_seen}
use Rattle.sp_parse_expr_steps.specs.Reading.{IsRead, IsStop, IsStep}
use Rattle.sp_parse_expr_steps.specs.Declaring.{AreSpecified, IsDeclared, declared_seen, head_name}
use Rattle.sp_parse_expr_steps.proofs.Steps.{begun, got, last, finished, unread, part_fails}
use Rattle.sp_parse_expr_steps.proofs.Parts.{IsOn, on_mark}
use Rattle.sp_parse_expr_steps.proofs.Faulting.{stop_at}
use Rattle.sp_parse_expr_steps.proofs.ExpressionSteps.{built, first_same, first_taken, first_deep}
use Rattle.sp_parse_expr_steps.proofs.Concrete.{concrete_read}
use Rattle.sp_parse_expr_steps.proofs.ListSteps.{choice_ends, choice_on, choice_taken}
use Rattle.sp_parse_expr_steps.proofs.DeclaratorSteps.{same_on, direct_on}
use Rattle.sp_parse_expr_steps.proofs.GroupSteps.{direct_begins_none}
use Rattle.sp_parse_declarations.specs.Taking.{IsTaken}

abbrev Several : Type 0
Several = Items syntax_trees

abbrev Specified : Type 0
Specified = grammar.Specified syntax_trees

-- ---- no declarator, where the depth is 0

record Begun (g : Context) (x : TokenOf syntax_trees) (s : Sort) : Type 0 where
  begun_plan : Plan (c_symbols syntax_trees) (at g (grammar.declarator grammar.concrete))
  begun_chosen : plan {t = syntax_trees} g (grammar.declarator grammar.concrete) x s ≡ Some begun_plan
  begun_opens : s ≡ view g.types x.sort → Opens c_table (at g (grammar.declarator grammar.concrete)) begun_plan x

declarator_begun : (g : Context) (x : TokenOf syntax_trees) (s : Sort) → begins_items s ≡ true → Begun g x s
declarator_begun g x (tokens.name n) e = record { begun_plan = _; begun_chosen = refl; begun_opens = λ is. open_call (subst {0, 0} (λ v. plan {t = syntax_trees} g (grammar.direct grammar.concrete) x v ≡ Some (next (λ y. done (grammar.named_declarator x n)))) is refl) (open_take refl) }
declarator_begun g x (tokens.mark tokens.star) e = record { begun_plan = _; begun_chosen = refl; begun_opens = λ is. open_take refl }
declarator_begun g x (tokens.mark tokens.opening) e = record { begun_plan = _; begun_chosen = refl; begun_opens = λ is. open_call (subst {0, 0} (λ v. plan {t = syntax_trees} g (grammar.direct grammar.concrete) x v ≡ Some (next (λ y. get g (grammar.behind_group grammar.concrete x) (λ d. done d)))) is refl) (open_take refl) }
declarator_begun g x _ e = absurd cc

declarator_least_some : (s : Sort) → 0 < declarator_least s
declarator_least_some (tokens.mark tokens.star) = omega arith
declarator_least_some _ = omega arith

declarator_passed : (g : Context) (x : Token) (xs : List Token) → begins_items (view g.types (sort_of x.kind)) ≡ true → Nests c_table c_depths (at g (grammar.declarator grammar.concrete)) 0 (c_tokens (x ∷ xs)) (c_tokens (x ∷ xs))
declarator_passed g x xs begins =
    let v = view g.types (sort_of x.kind) in
    let b = declarator_begun g (terminal x) v begins in
    nests b.begun_chosen (deep_here b.begun_chosen (b.begun_opens refl) (declarator_least_some v))

pub declarator_deep : (g : Context) (text xs : List Token) (x : Token) (d : ℕ) → text ≡ x ∷ xs → d ≡ 0 → begins_items (view g.types (sort_of x.kind)) ≡ true → Nests c_table c_depths (at g (grammar.declarator grammar.concrete)) d (c_tokens text) (c_tokens text)
declarator_deep g text xs x d e none begins =
    subst (λ v. Nests c_table c_depths (at g (grammar.declarator grammar.concrete)) d (c_tokens v) (c_tokens v)) (sym e) (subst (λ v. Nests c_table c_depths (at g (grammar.declarator grammar.concrete)) v (c_tokens (x ∷ xs)) (c_tokens (x ∷ xs))) (sym none) (declarator_passed g x xs begins))

no_star : (s : Sort) → begins_items s ≡ false → is_mark tokens.star s ≡ false
no_star (tokens.mark tokens.star) e = absurd cc
no_star (tokens.mark m) e = refl
no_star _ e = refl

no_opening : (s : Sort) → begins_items s ≡ false → is_mark tokens.opening s ≡ false
no_opening (tokens.mark tokens.opening) e = absurd cc
no_opening (tokens.mark m) e = refl
no_opening _ e = refl

no_head : (s : Sort) → begins_items s ≡ false → head_name grammar.concrete s ≡ None
no_head (tokens.name n) e = absurd cc
no_head _ e = refl

pub declarator_none : (types : List ℕ) (scope : Scope) (d : ℕ) (text xs : List Token) (x : Token) → text ≡ x ∷ xs → IsEnded text → begins_items (view types (sort_of x.kind)) ≡ false → (stop : ReadError) → IsFaultFor types scope also.Name text stop → IsStop (there types scope) (grammar.declarator grammar.concrete) d text stop
declarator_none types scope d text xs x e ended other stop h =
    let g = there types scope in
    let v = view types (sort_of x.kind) in
    let i = grammar.direct grammar.concrete in
    let part = unread {D = c_depths} (begun (at g i) (c_tokens text)) (ap c_tokens e) (direct_begins_none g grammar.concrete (terminal x) v refl (no_opening v other) (no_head v other)) in
    let fails = part_fails (direct_on g text xs x e grammar.concrete (no_star v other)) part in
    stop_at types scope also.Name (asked (at g i)) g (grammar.declarator grammar.concrete) d text text fails (λ y. refl) ended stop h

-- ---- an initialiser where a `=` begins one

abbrev pub initial_plan : (g : Context) → Plan (c_symbols syntax_trees) (at g grammar.initial)
initial_plan g = get g grammar.init (λ i. done (Some i))

module _ (g : Context) (text xs : List Token) (x : Token) (e : text ≡ x ∷ xs) where
  pub initial_none : (d : ℕ) → is_mark tokens.equal (view g.types (sort_of x.kind)) ≡ false → IsEnded text → IsRead g grammar.initial d text None 0 text
  initial_none d other ended =
      built g grammar.initial d 0 text text None None (finished (first_same g grammar.initial text xs x (view g.types (sort_of x.kind)) e refl (done None) (ap (λ b. if b then Some (next (λ y. initial_plan g)) else Some (done None)) other))) refl refl (omega arith) ended (omega arith)

  pub initial_on : is_mark tokens.equal (view g.types (sort_of x.kind)) ≡ true → IsOn g g grammar.initial grammar.initial (λ a. a) (initial_plan g) text xs
  initial_on stands = first_taken g grammar.initial text xs x (view g.types (sort_of x.kind)) e refl (λ y. initial_plan g) (ap (λ b. if b then Some (next (λ y. initial_plan g)) else Some (done None)) stands)

  pub initial_deep : (d : ℕ) → tokens.mark tokens.equal ≡ view g.types (sort_of x.kind) → d < 2 → Nests c_table c_depths (at g grammar.initial) d (c_tokens text) (c_tokens text)
  initial_deep d is less = first_deep g grammar.initial text xs x (tokens.mark tokens.equal) e is d (λ y. initial_plan g) refl less

pub equal_is : (s : Sort) → is_mark tokens.equal s ≡ true → s ≡ tokens.mark tokens.equal
equal_is (tokens.mark tokens.equal) e = refl
equal_is _ e = absurd cc

-- ---- one declarator

abbrev pub item_more : (g : Context) (d : grammar.Declared syntax_trees) → Plan (c_symbols syntax_trees) (at g grammar.item)
item_more g d = get g grammar.initial (λ v. done (one_item d v))

abbrev pub item_plan : (g : Context) → Plan (c_symbols syntax_trees) (at g grammar.item)
item_plan g = get g (grammar.declarator grammar.concrete) (item_more g)

pub item_on : (g : Context) (text : List Token) → IsEnded text → IsOn g g grammar.item grammar.item (λ a. a) (item_plan g) text text
item_on g text ended = same_on g grammar.item text (item_plan g) ended (λ x s. refl)

pub item_read : (g : Context) (d m n k : ℕ) (text mid rest : List Token) (head : grammar.Declared syntax_trees) (v : Option Init) (made : Several) → IsEnded text → IsRead g (grammar.declarator grammar.concrete) d text head m mid → IsRead g grammar.initial d mid v n rest → made ≡ one_item head v → k ≡ max m n → IsRead g grammar.item d text made k rest
item_read g d m n k text mid rest head v made ended h w same both =
    let deep : k ≡ items_depth (all_items (one_item head v).all) = omega (arith, both, h.deep, w.deep) in
    built g grammar.item d k text rest (one_item head v) made (finished (got (got (item_on g text ended) h.reads) w.reads)) same deep (omega (arith, both, h.shallow, w.shallow)) w.ended (omega (arith, h.fewer, w.fewer))

-- ---- more of them

abbrev pub several : List InitDeclarator → List ℕ → grammar.AlsoAllowed → Several
several all names p = record { all = all; names = names; behind = p }

pub several_same : {xs ys : List InitDeclarator} {m n : List ℕ} {p q : grammar.AlsoAllowed} → xs ≡ ys → m ≡ n → p ≡ q → ◌≡◌ {A = Several} (several xs m p) (several ys n q)
several_same e f h = cc

abbrev pub items_more : (g : Context) (is i : Several) → Plan (c_symbols syntax_trees) (at g (grammar.more_items is))
items_more g is i = get g (grammar.more_items (both_items is i)) (λ js. done js)

module _ (g : Context) (first is : Several) (text rest xs : List Token) (x : Token) (step : IsStep g (grammar.more_items first) (grammar.more_items is) (λ a. a) text rest) (e : rest ≡ x ∷ xs) where
  pub items_end : (d n : ℕ) → is_mark tokens.comma (view g.types (sort_of x.kind)) ≡ false → n ≡ items_depth (all_items is.all) → n ≤ d → IsEnded rest → length rest ≤ length text → IsRead g (grammar.more_items first) d text is n rest
  items_end d n other deep shallow ended fewer =
      built g (grammar.more_items first) d n text rest is is (choice_ends g (grammar.more_items first) (grammar.more_items is) (λ a. a) text rest xs x step e (is_mark tokens.comma (view g.types (sort_of x.kind))) is (next (λ y. get g grammar.item (items_more g is))) refl other) refl deep shallow ended (omega (arith, fewer))

  pub items_on : is_mark tokens.comma (view g.types (sort_of x.kind)) ≡ true → IsOn g g (grammar.more_items first) (grammar.more_items is) (λ a. a) (get g grammar.item (items_more g is)) text xs
  items_on stands = choice_taken g (grammar.more_items first) (grammar.more_items is) (λ a. a) text rest xs x step e (is_mark tokens.comma (view g.types (sort_of x.kind))) is (λ y. get g grammar.item (items_more g is)) refl stands

  pub items_step : (i now : Several) (later : List Token) → is_mark tokens.comma (view g.types (sort_of x.kind)) ≡ true → Reads c_table (at g grammar.item) (ask (at g grammar.item)) (c_tokens xs) i (c_tokens later) → now ≡ both_items is i → IsStep g (grammar.more_items first) (grammar.more_items now) (λ a. a) text later
  items_step i now later stands read same = subst (λ v. IsStep g (grammar.more_items first) (grammar.more_items v) (λ a. a) text later) (sym same) (last (got (items_on stands) read))

-- ---- a list of declarators, none or more

abbrev pub items_plan : (g : Context) → Plan (c_symbols syntax_trees) (at g grammar.items)
items_plan g = get g grammar.item (λ i. get g (grammar.more_items i) (λ is. done is))

module _ (g : Context) (text xs : List Token) (x : Token) (e : text ≡ x ∷ xs) where
  pub items_none : (d : ℕ) (made : Several) → begins_items (view g.types (sort_of x.kind)) ≡ false → IsEnded text → made ≡ no_items → IsRead g grammar.items d text made 0 text
  items_none d made other ended same =
      built g grammar.items d 0 text text no_items made (finished (first_same g grammar.items text xs x (view g.types (sort_of x.kind)) e refl (done no_items) (ap (λ b. if b then Some (items_plan g) else Some (done no_items)) other))) same refl (omega arith) ended (omega arith)

  pub items_begun : begins_items (view g.types (sort_of x.kind)) ≡ true → IsOn g g grammar.items grammar.items (λ a. a) (items_plan g) text text
  items_begun stands = first_same g grammar.items text xs x (view g.types (sort_of x.kind)) e refl (items_plan g) (ap (λ b. if b then Some (items_plan g) else Some (done no_items)) stands)

-- ---- a declaration

abbrev pub declaration_done : (g : Context) (ss : List SpecifierAt) (is : List InitDeclarator) → TokenOf syntax_trees → Plan (c_symbols syntax_trees) (at g grammar.declaration)
declaration_done g ss is y = done (make_declaration ss is)

abbrev pub declaration_close : (g : Context) (ss : List SpecifierAt) (is : Several) → Plan (c_symbols syntax_trees) (at g grammar.declaration)
declaration_close g ss is = close_by g is.behind tokens.semicolon (declaration_done g ss is.all)

abbrev pub declaration_more : (g : Context) (sp : Specified) → Plan (c_symbols syntax_trees) (at g grammar.declaration)
declaration_more g sp = get g grammar.items (declaration_close g sp.all)

abbrev pub declaration_plan : (g : Context) → Plan (c_symbols syntax_trees) (at g grammar.declaration)
declaration_plan g = get g (grammar.specifiers true tokens.nothing_seen grammar.no_specifiers) (declaration_more g)

pub declaration_on : (g : Context) (text : List Token) → IsEnded text → IsOn g g grammar.declaration grammar.declaration (λ a. a) (declaration_plan g) text text
declaration_on g text ended = same_on g grammar.declaration text (declaration_plan g) ended (λ x s. refl)

items_listed : (is : List InitDeclarator) → init_declarators is ≡ all_items is
items_listed [] = refl
items_listed (i ∷ is) = ap (λ v. syntax.next_item i v) (items_listed is)

-- the declaration of these specifiers and declarators
pub declaration_made : (g : Context) (stores : Bool) (d m : ℕ) (text rest : List Token) (ss : SpecifierList) (is : List InitDeclarator) (place : Place) (made : Declaration) → (h : AreSpecified g stores d text ss m rest) → place ≡ first_place text → made ≡ syntax.declaration (specifiers_of ss.all.items) (init_declarators is) place → made ≡ make_declaration h.all is
declaration_made g stores d m text rest ss is place made h at_first same = same ∙ (ap (λ v. syntax.declaration v (init_declarators is) place) h.same ∙ (ap (λ v. syntax.declaration (all_specifiers h.all) v place) (items_listed is) ∙ ap (λ v. syntax.declaration (all_specifiers h.all) (all_items is) v) (at_first ∙ sym h.place)))

pub declaration_read : (types : List ℕ) (scope : Scope) (d m n k : ℕ) (text mid last_tokens rest : List Token) (ss : SpecifierList) (is : Several) (p : AlsoAllowed) (made : Declaration) → IsEnded text → (h : AreSpecified (there types scope) true d text ss m mid) → IsRead (there types scope) grammar.items d mid is n last_tokens → allowed_seen p ≡ is.behind → IsExpected types tokens.semicolon last_tokens rest → k ≡ max m n → made ≡ make_declaration h.all is.all → IsTaken (there types scope) grammar.declaration d text made k rest
declaration_read types scope d m n k text mid last_tokens rest ss is p made ended h w behind closes both same =
    let g = there types scope in
    let on = got (got (declaration_on g text ended) h.read.reads) w.reads in
    let here = subst (λ v. IsOn g g grammar.declaration grammar.declaration (λ a. a) (close_by g v tokens.semicolon (declaration_done g h.all is.all)) text last_tokens) (sym behind) on in
    let less : length last_tokens ≡ length (closes.first ∷ rest) = ap length closes.whole in
    record {
      read = built g grammar.declaration d k text rest (make_declaration h.all is.all) made (finished (on_mark types scope g grammar.declaration grammar.declaration (λ v. v) tokens.semicolon p (declaration_done g h.all is.all) g text last_tokens rest here closes)) same (omega (arith, both, h.read.deep, w.deep)) (omega (arith, both, h.read.shallow, w.shallow)) closes.ended (omega (arith, h.fewer, w.fewer, less));
      fewer = omega (arith, h.fewer, w.fewer, less);
    }

-- ---- lists of declarations

abbrev pub declarations_more : (g : Context) (ds : List Declaration) (d : Declaration) → Plan (c_symbols syntax_trees) (at g (grammar.declarations ds))
declarations_more g ds d = get g (grammar.declarations (ds ++ d ∷ [])) (λ es. done es)

module _ (g : Context) (first ds : List Declaration) (text rest xs : List Token) (x : Token) (step : IsStep g (grammar.declarations first) (grammar.declarations ds) (λ a. a) text rest) (e : rest ≡ x ∷ xs) where
  pub declarations_on : begins_specifiers true g.inside (view g.types (sort_of x.kind)) ≡ true → IsOn g g (grammar.declarations first) (grammar.declarations ds) (λ a. a) (get g grammar.declaration (declarations_more g ds)) text rest
  declarations_on stands = choice_on g (grammar.declarations first) (grammar.declarations ds) (λ a. a) text rest xs x step e (begins_specifiers true g.inside (view g.types (sort_of x.kind))) ds (get g grammar.declaration (declarations_more g ds)) refl stands

  pub declarations_end : (d n : ℕ) → begins_specifiers true g.inside (view g.types (sort_of x.kind)) ≡ false → n ≡ declarations_depth (declarations ds) → n ≤ d → IsEnded rest → length rest ≤ length text → IsRead g (grammar.declarations first) d text ds n rest
  declarations_end d n other deep shallow ended fewer =
      built g (grammar.declarations first) d n text rest ds ds (choice_ends g (grammar.declarations first) (grammar.declarations ds) (λ a. a) text rest xs x step e (begins_specifiers true g.inside (view g.types (sort_of x.kind))) ds (get g grammar.declaration (declarations_more g ds)) refl other) refl deep shallow ended (omega (arith, fewer))

-- ---- a declarator of a name has its place at once

pub named_result : (g : Context) (d : ℕ) (text : List Token) (r : Result (Part Declared) ReadError)
    → MatchResult r (λ part. IsDeclared g (grammar.declarator grammar.concrete) (λ a. a) d text part.tree part.depth part.rest.now) (IsStop g (grammar.declarator grammar.concrete) d text)
    → MatchResult r (λ part. IsRead g (grammar.declarator grammar.concrete) d text (declared_seen part.tree (declarator_of part.tree.tree)) part.depth part.rest.now) (IsStop g (grammar.declarator grammar.concrete) d text)
named_result g d text (Ok part) h = concrete_read g d part.depth text part.rest.now part.tree h
named_result g d text (Err s) h = h
