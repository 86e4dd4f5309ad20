-- The steps of the readers of external declarations, over plain variables.
use Rattle.std.proofs.Common.{◌≡◌, ℕ, ◌≤◌, Bool, true, false, Result, Ok, Err, List, [], ◌∷◌, length, Some, refl, sym, ap, ◌∙◌, subst, arith}
use Rattle.std.specs.Prelude.{◌&&◌, not, max, MatchResult, Option, if◌then◌else◌}
use Rattle.sp_tree.specs.declared.fault.Place.{Place}
use Rattle.sp_tree.specs.declared.token.Token.{Token}
use Rattle.sp_parse_trees.specs.Syntax as syntax
use Rattle.sp_parse_trees.specs.Syntax.{External, Specifiers, Declarator, Declaration, Statement, Init, InitDeclarator, declaration}
use Rattle.sp_parse_trees.specs.View.{init_declarators}
use Rattle.sp_parse_trees.specs.Depth.{specifiers_depth, declarator_depth, statement_depth}
use Rattle.sp_parse_grammar.specs.CTokens as tokens
use Rattle.sp_parse_grammar.specs.CTokens.{view, is_mark}
use Rattle.sp_parse_grammar.specs.CTable as grammar
use Rattle.sp_parse_grammar.specs.CTable.{Context, at, c_symbols, get, next, close_by, one_item, with_name, new_types, in_function, is_variadic}
use Rattle.sp_parse_grammar.specs.Table.{Plan, done}
use Rattle.sp_parse_tokens.specs.declared.scope.Scope.{Scope}
use Rattle.sp_parse_tokens.specs.declared.scope.AlsoAllowed.{AlsoAllowed}
use Rattle.sp_parse_tokens.specs.declared.part.Part.{Part}
use Rattle.sp_parse_tokens.specs.declared.part.ReadError.{ReadError}
use Rattle.sp_parse_tokens.specs.declared.part.SpecifierList.{SpecifierList}
use Rattle.sp_parse_tokens.specs.Sorts.{Terminal, terminal, sort_of}
use Rattle.sp_parse_tokens.specs.SyntaxTrees.{syntax_trees}
use Rattle.sp_parse_tokens.specs.Makers.{SpecifierAt, all_specifiers, all_items, place_of_first, make_declaration}
use Rattle.sp_parse_tokens.specs.Ended.{IsEnded}
use Rattle.sp_parse_tokens.specs.Expecting.{IsExpected, IsUnexpected}
use Rattle.sp_parse_tokens.specs.Scopes.{there, allowed_seen}
use Rattle.sp_parse_tokens.proofs.Viewing.{ended_mark, mark_viewed}
use Rattle.sp_parse_expr_steps.specs.Reading.{IsRead, IsStop}
use Rattle.sp_parse_expr_steps.specs.Declaring.{AreSpecified}
use Rattle.sp_parse_expr_steps.proofs.Steps.{got, last, finished}
use Rattle.sp_parse_expr_steps.proofs.Parts.{IsOn, on_mark, stop_before, stop_mark, stop_part}
use Rattle.sp_parse_expr_steps.proofs.ExpressionSteps.{built, read_before, first_same, first_taken}
use Rattle.sp_parse_expr_steps.proofs.Faulting.{result_before}
use Rattle.sp_parse_declarations.specs.Taking.{IsTaken}
use Rattle.sp_parse_statements.specs.Parts.{compound, IsCompound, IsCompoundStop}
use Rattle.sp_decl_parser.specs.declared.externals.ExternalPart.{ExternalPart}
use Rattle.sp_decl_parser.specs.Seen.{external_part, specified, sort_of_first}

abbrev Declares : Type 0
Declares = grammar.Declares syntax_trees

abbrev Specified : Type 0
Specified = grammar.Specified syntax_trees

abbrev Declared : Type 0
Declared = grammar.Declared syntax_trees

abbrev Items : Type 0
Items = grammar.Items syntax_trees

abbrev pub declares : External → List ℕ → Declares
declares e ns = record { tree = e; types = ns }

pub declares_same : {e f : External} {ms ns : List ℕ} → e ≡ f → ms ≡ ns → ◌≡◌ {A = Declares} (declares e ms) (declares f ns)
declares_same e f = cc

-- the sort of the first token, where that is known
at_first : (types : List ℕ) (text xs : List Token) (x : Token) → text ≡ x ∷ xs → sort_of_first types text ≡ view types (sort_of x.kind)
at_first types text xs x e = ap (λ v. sort_of_first types v) e

-- ---- `;` alone

abbrev empty_plan : (g : Context) (x : Terminal) → Plan (c_symbols syntax_trees) (at g grammar.external)
empty_plan g x = done (declares (syntax_trees.nothing x) [])

abbrev pub specified_rest : (g : Context) (sp : Specified) → Plan (c_symbols syntax_trees) (at g grammar.external)
specified_rest g sp = get g (grammar.external_items sp) (λ r. done r)

abbrev pub specified_plan : (g : Context) → Plan (c_symbols syntax_trees) (at g grammar.external)
specified_plan g = get g (grammar.specifiers true tokens.nothing_seen grammar.no_specifiers) (specified_rest g)

module _ (types : List ℕ) (scope : Scope) (text xs : List Token) (x : Token) (e : text ≡ x ∷ xs) where
  abbrev g : Context
  g = there types scope

  -- behind a `;` the text goes on
  pub behind_semicolon : is_mark tokens.semicolon (sort_of_first types text) ≡ true → IsEnded text → IsEnded xs
  behind_semicolon stands ended =
      let here : is_mark tokens.semicolon (view types (sort_of x.kind)) ≡ true = sym (ap (λ s. is_mark tokens.semicolon s) (at_first types text xs x e)) ∙ stands in
      ended_mark tokens.semicolon x xs (omega arith) (sym (mark_viewed types tokens.semicolon (sort_of x.kind)) ∙ here) (subst IsEnded e ended)

  pub empty_read : (d : ℕ) (made : Declares) → is_mark tokens.semicolon (sort_of_first types text) ≡ true → IsEnded text → made ≡ declares syntax.semicolon [] → IsTaken g grammar.external d text made 0 xs
  empty_read d made stands ended same =
      let here : is_mark tokens.semicolon (view types (sort_of x.kind)) ≡ true = sym (ap (λ s. is_mark tokens.semicolon s) (at_first types text xs x e)) ∙ stands in
      let on = first_taken g grammar.external text xs x (view types (sort_of x.kind)) e refl (λ y. empty_plan g (terminal x)) (ap (λ b. if b then Some (next (λ y. empty_plan g (terminal x))) else Some (specified_plan g)) here) in
      let less : length text ≡ length (x ∷ xs) = ap length e in
      record {
        read = built g grammar.external d 0 text xs (declares (syntax_trees.nothing (terminal x)) []) made (finished on) same refl (omega arith) (behind_semicolon stands ended) (omega (arith, less));
        fewer = omega (arith, less);
      }

  -- ---- specifiers, and what is behind them

  module _ (other : is_mark tokens.semicolon (sort_of_first types text) ≡ false) where
    external_on : IsOn g g grammar.external grammar.external (λ a. a) (specified_plan g) text text
    external_on =
        let here : is_mark tokens.semicolon (view types (sort_of x.kind)) ≡ false = sym (ap (λ s. is_mark tokens.semicolon s) (at_first types text xs x e)) ∙ other in
        first_same g grammar.external text xs x (view types (sort_of x.kind)) e refl (specified_plan g) (ap (λ b. if b then Some (next (λ y. empty_plan g (terminal x))) else Some (specified_plan g)) here)

    pub external_unspecified : (d : ℕ) (s : ReadError) → IsStop g (grammar.specifiers true tokens.nothing_seen grammar.no_specifiers) d text s → IsStop g grammar.external d text s
    external_unspecified d s h = stop_part g g g grammar.external grammar.external (grammar.specifiers true tokens.nothing_seen grammar.no_specifiers) (λ a. a) (specified_rest g) d d text text external_on (omega arith) s h

    pub external_result : (d m : ℕ) (mid : List Token) (ss : SpecifierList) (h : AreSpecified g true d text ss m mid) (r : Result (Part ExternalPart) ReadError)
        → MatchResult r (λ part. IsRead g (grammar.external_items (specified h.all ss.typedefs)) d mid (external_part part.tree) part.depth part.rest.now) (IsStop g (grammar.external_items (specified h.all ss.typedefs)) d mid)
        → MatchResult r (λ part. IsTaken g grammar.external d text (external_part part.tree) part.depth part.rest.now) (IsStop g grammar.external d text)
    external_result d m mid ss h (Ok part) w = record {
      read = read_before g grammar.external (grammar.external_items (specified h.all ss.typedefs)) (λ a. a) d part.depth text mid part.rest.now (external_part part.tree) (last (got external_on h.read.reads)) w refl (omega (arith, h.fewer, w.fewer));
      fewer = omega (arith, h.fewer, w.fewer);
    }
    external_result d m mid ss h (Err s) w = stop_before g grammar.external (grammar.external_items (specified h.all ss.typedefs)) (λ a. a) d text mid (last (got external_on h.read.reads)) s w

-- ---- behind the specifiers

abbrev alone_plan : (g : Context) (sp : Specified) → Plan (c_symbols syntax_trees) (at g (grammar.external_items sp))
alone_plan g sp = done (declares (syntax.external_declaration (make_declaration sp.all [])) [])

abbrev pub declarator_rest : (g : Context) (sp : Specified) (d : Declared) → Plan (c_symbols syntax_trees) (at g (grammar.external_items sp))
declarator_rest g sp d = get g (grammar.behind_declarator sp d) (λ r. done r)

abbrev pub declarator_plan : (g : Context) (sp : Specified) → Plan (c_symbols syntax_trees) (at g (grammar.external_items sp))
declarator_plan g sp = get g (grammar.declarator grammar.concrete) (declarator_rest g sp)

-- a declaration, in the code's words
made_same : (all : List SpecifierAt) (written : Specifiers) (is : List InitDeclarator) (place : Place) → written ≡ all_specifiers all → place_of_first all ≡ place → declaration written (init_declarators is) place ≡ make_declaration all is
made_same all written is place same first = ap (λ v. declaration v (init_declarators is) place) same ∙ (ap (λ v. declaration (all_specifiers all) v place) (listed is) ∙ ap (λ v. declaration (all_specifiers all) (all_items is) v) (sym first))
  where
    listed : (js : List InitDeclarator) → init_declarators js ≡ all_items js
    listed [] = refl
    listed (j ∷ js) = ap (λ v. syntax.next_item j v) (listed js)

module _ (types : List ℕ) (scope : Scope) (text xs : List Token) (x : Token) (e : text ≡ x ∷ xs) (all : List SpecifierAt) (typedefs : Bool) where
  abbrev here : Context
  here = there types scope

  abbrev sp : Specified
  sp = specified all typedefs

  pub alone_read : (d n : ℕ) (written : Specifiers) (place : Place) (made : Declares) → is_mark tokens.semicolon (sort_of_first types text) ≡ true → IsEnded text → written ≡ all_specifiers all → place_of_first all ≡ place → made ≡ declares (syntax.external_declaration (declaration written (init_declarators []) place)) [] → n ≡ specifiers_depth written → n ≤ d → IsRead here (grammar.external_items sp) d text made n xs
  alone_read d n written place made stands ended same first is deep shallow =
      let there_it_is : is_mark tokens.semicolon (view types (sort_of x.kind)) ≡ true = sym (ap (λ s. is_mark tokens.semicolon s) (at_first types text xs x e)) ∙ stands in
      let on = first_taken here (grammar.external_items sp) text xs x (view types (sort_of x.kind)) e refl (λ y. alone_plan here sp) (ap (λ b. if b then Some (next (λ y. alone_plan here sp)) else Some (declarator_plan here sp)) there_it_is) in
      let right = is ∙ ap (λ v. declares (syntax.external_declaration v) []) (made_same all written [] place same first) in
      let less : length text ≡ length (x ∷ xs) = ap length e in
      built here (grammar.external_items sp) d n text xs (declares (syntax.external_declaration (make_declaration all [])) []) made (finished on) right (omega (arith, deep, ap (λ v. specifiers_depth v) same)) shallow (behind_semicolon types scope text xs x e stands ended) (omega (arith, less))

  module _ (other : is_mark tokens.semicolon (sort_of_first types text) ≡ false) where
    items_on : IsOn here here (grammar.external_items sp) (grammar.external_items sp) (λ a. a) (declarator_plan here sp) text text
    items_on =
        let not_there : is_mark tokens.semicolon (view types (sort_of x.kind)) ≡ false = sym (ap (λ s. is_mark tokens.semicolon s) (at_first types text xs x e)) ∙ other in
        first_same here (grammar.external_items sp) text xs x (view types (sort_of x.kind)) e refl (declarator_plan here sp) (ap (λ b. if b then Some (next (λ y. alone_plan here sp)) else Some (declarator_plan here sp)) not_there)

    pub items_undeclared : (d : ℕ) (s : ReadError) → IsStop here (grammar.declarator grammar.concrete) d text s → IsStop here (grammar.external_items sp) d text s
    items_undeclared d s h = stop_part here here here (grammar.external_items sp) (grammar.external_items sp) (grammar.declarator grammar.concrete) (λ a. a) (declarator_rest here sp) d d text text items_on (omega arith) s h

    pub items_result : (d m : ℕ) (mid : List Token) (head : Declared) (h : IsRead here (grammar.declarator grammar.concrete) d text head m mid) (r : Result (Part ExternalPart) ReadError)
        → MatchResult r (λ part. IsRead here (grammar.behind_declarator sp head) d mid (external_part part.tree) part.depth part.rest.now) (IsStop here (grammar.behind_declarator sp head) d mid)
        → MatchResult r (λ part. IsRead here (grammar.external_items sp) d text (external_part part.tree) part.depth part.rest.now) (IsStop here (grammar.external_items sp) d text)
    items_result d m mid head h r w = result_before here (grammar.external_items sp) (grammar.behind_declarator sp head) (λ a. a) external_part d text mid (last (got items_on h.reads)) (λ a. refl) (omega (arith, h.fewer)) r w

-- ---- behind the declarator

abbrev body_made : (g : Context) (sp : Specified) (d : Declared) (x : Token) → List Declaration → List Statement → Terminal → Plan (c_symbols syntax_trees) (at g (grammar.behind_declarator sp d))
body_made g sp d x ds ss z = done (declares (syntax_trees.definition sp.all d.tree (syntax_trees.block (terminal x) ds ss z)) (new_types sp (with_name d.declares [])))

abbrev body_plan : (g : Context) (sp : Specified) (d : Declared) (x : Token) → Plan (c_symbols syntax_trees) (at g (grammar.behind_declarator sp d))
body_plan g sp d x = compound (in_function g) (body_made g sp d x)

abbrev pub items_done : (g : Context) (sp : Specified) (d : Declared) (is : Items) → Terminal → Plan (c_symbols syntax_trees) (at g (grammar.behind_declarator sp d))
items_done g sp d is z = done (declares (syntax.external_declaration (make_declaration sp.all is.all)) (new_types sp is.names))

abbrev pub items_close : (g : Context) (sp : Specified) (d : Declared) (is : Items) → Plan (c_symbols syntax_trees) (at g (grammar.behind_declarator sp d))
items_close g sp d is = close_by g is.behind tokens.semicolon (items_done g sp d is)

abbrev pub initial_rest : (g : Context) (sp : Specified) (d : Declared) (v : Option Init) → Plan (c_symbols syntax_trees) (at g (grammar.behind_declarator sp d))
initial_rest g sp d v = get g (grammar.more_items (one_item d v)) (items_close g sp d)

abbrev initial_plan : (g : Context) (sp : Specified) (d : Declared) → Plan (c_symbols syntax_trees) (at g (grammar.behind_declarator sp d))
initial_plan g sp d = get g grammar.initial (initial_rest g sp d)

abbrev begins_body : List ℕ → List Token → Declared → Bool
begins_body types text d = is_mark tokens.brace (sort_of_first types text) && not (is_variadic d.shape)

module _ (types : List ℕ) (scope : Scope) (depth : ℕ) (text xs : List Token) (x : Token) (e : text ≡ x ∷ xs) (sp : Specified) (d : Declared) where
  abbrev context : Context
  context = there types scope

  body_chosen : (b : Bool) → begins_body types text d ≡ b → (is_mark tokens.brace (view types (sort_of x.kind)) && not (is_variadic d.shape)) ≡ b
  body_chosen b stands = sym (ap (λ s. is_mark tokens.brace s && not (is_variadic d.shape)) (at_first types text xs x e)) ∙ stands

  body_on : begins_body types text d ≡ true → IsOn context context (grammar.behind_declarator sp d) (grammar.behind_declarator sp d) (λ a. a) (body_plan context sp d x) text xs
  body_on stands = first_taken context (grammar.behind_declarator sp d) text xs x (view types (sort_of x.kind)) e refl (λ y. body_plan context sp d x) (ap (λ b. if b then Some (next (λ y. body_plan context sp d x)) else Some (initial_plan context sp d)) (body_chosen true stands))

  pub body_stop : begins_body types text d ≡ true → (within : Context) → within ≡ in_function context → (s : ReadError) → IsCompoundStop within depth xs s → IsStop context (grammar.behind_declarator sp d) depth text s
  body_stop stands within same s h =
      let inside : IsCompoundStop (in_function context) depth xs s = subst (λ v. IsCompoundStop v depth xs s) same h in
      inside context context (grammar.behind_declarator sp d) (grammar.behind_declarator sp d) (λ a. a) (body_made context sp d x) text (body_on stands) refl refl

  pub body_read : begins_body types text d ≡ true → (within : Context) → within ≡ in_function context → (m n : ℕ) (rest : List Token) (body : Statement) → IsCompound within depth x.place xs body m rest → (written : Specifiers) (made : Declares) → written ≡ all_specifiers sp.all → made ≡ declares (syntax.definition written d.tree body) (new_types sp (with_name d.declares [])) → n ≡ max (specifiers_depth written) (max (declarator_depth d.tree) m) → n ≤ depth → IsRead context (grammar.behind_declarator sp d) depth text made n rest
  body_read stands within same m n rest body h written made words is deepest shallow =
      let w : IsCompound (in_function context) depth x.place xs body m rest = subst (λ v. IsCompound v depth x.place xs body m rest) same h in
      let tree = syntax_trees.block (terminal x) w.all w.statements (terminal w.mark) in
      let right : made ≡ declares (syntax_trees.definition sp.all d.tree tree) (new_types sp (with_name d.declares [])) = is ∙ (ap (λ v. declares (syntax.definition v d.tree body) (new_types sp (with_name d.declares []))) words ∙ ap (λ v. declares (syntax.definition (all_specifiers sp.all) d.tree v) (new_types sp (with_name d.declares []))) w.makes) in
      let less : length text ≡ length (x ∷ xs) = ap length e in
      built context (grammar.behind_declarator sp d) depth n text rest (declares (syntax_trees.definition sp.all d.tree tree) (new_types sp (with_name d.declares []))) made
      (finished (w.leads context context (grammar.behind_declarator sp d) (grammar.behind_declarator sp d) (λ a. a) (body_made context sp d x) text (body_on stands)))
      right (omega (arith, deepest, w.deep, ap (λ v. specifiers_depth v) words, ap (λ v. statement_depth v) w.makes)) shallow w.ended (omega (arith, less, w.fewer))

  module _ (none : begins_body types text d ≡ false) where
    initial_on : IsOn context context (grammar.behind_declarator sp d) (grammar.behind_declarator sp d) (λ a. a) (initial_plan context sp d) text text
    initial_on = first_same context (grammar.behind_declarator sp d) text xs x (view types (sort_of x.kind)) e refl (initial_plan context sp d) (ap (λ b. if b then Some (next (λ y. body_plan context sp d x)) else Some (initial_plan context sp d)) (body_chosen false none))

    pub rest_initial : (s : ReadError) → IsStop context grammar.initial depth text s → IsStop context (grammar.behind_declarator sp d) depth text s
    rest_initial s h = stop_part context context context (grammar.behind_declarator sp d) (grammar.behind_declarator sp d) grammar.initial (λ a. a) (initial_rest context sp d) depth depth text text initial_on (omega arith) s h

    module _ (l : ℕ) (v : Option Init) (mid : List Token) (a : IsRead context grammar.initial depth text v l mid) (first : Items) (begins : first ≡ one_item d v) where
      rest_started : IsOn context context (grammar.behind_declarator sp d) (grammar.behind_declarator sp d) (λ b. b) (get context (grammar.more_items first) (items_close context sp d)) text mid
      rest_started = subst (λ i. IsOn context context (grammar.behind_declarator sp d) (grammar.behind_declarator sp d) (λ b. b) (get context (grammar.more_items i) (items_close context sp d)) text mid) (sym begins) (got initial_on a.reads)

      pub rest_items : (s : ReadError) → IsStop context (grammar.more_items first) depth mid s → IsStop context (grammar.behind_declarator sp d) depth text s
      rest_items s h = stop_part context context context (grammar.behind_declarator sp d) (grammar.behind_declarator sp d) (grammar.more_items first) (λ b. b) (items_close context sp d) depth depth text mid rest_started (omega arith) s h

      module _ (m : ℕ) (is : Items) (last_tokens : List Token) (b : IsRead context (grammar.more_items first) depth mid is m last_tokens) (p : AlsoAllowed) (behind : allowed_seen p ≡ is.behind) where
        rest_got : IsOn context context (grammar.behind_declarator sp d) (grammar.behind_declarator sp d) (λ w. w) (close_by context (allowed_seen p) tokens.semicolon (items_done context sp d is)) text last_tokens
        rest_got = subst (λ w. IsOn context context (grammar.behind_declarator sp d) (grammar.behind_declarator sp d) (λ u. u) (close_by context w tokens.semicolon (items_done context sp d is)) text last_tokens) (sym behind) (got rest_started b.reads)

        pub rest_unclosed : (s : ReadError) → IsUnexpected types scope tokens.semicolon p last_tokens s → IsStop context (grammar.behind_declarator sp d) depth text s
        rest_unclosed s u = stop_mark types scope context (grammar.behind_declarator sp d) (grammar.behind_declarator sp d) (λ w. w) tokens.semicolon p (items_done context sp d is) context depth text last_tokens rest_got b.ended s u

        pub rest_read : (n : ℕ) (rest : List Token) (written : Specifiers) (place : Place) (made : Declares) → IsExpected types tokens.semicolon last_tokens rest → written ≡ all_specifiers sp.all → place_of_first sp.all ≡ place → made ≡ declares (syntax.external_declaration (declaration written (init_declarators is.all) place)) (new_types sp is.names) → n ≡ max (specifiers_depth written) m → n ≤ depth → IsRead context (grammar.behind_declarator sp d) depth text made n rest
        rest_read n rest written place made closes words first_is_there same deepest shallow =
            let right = same ∙ ap (λ w. declares (syntax.external_declaration w) (new_types sp is.names)) (made_same sp.all written is.all place words first_is_there) in
            let less : length last_tokens ≡ length (closes.first ∷ rest) = ap length closes.whole in
            built context (grammar.behind_declarator sp d) depth n text rest (declares (syntax.external_declaration (make_declaration sp.all is.all)) (new_types sp is.names)) made
            (finished (on_mark types scope context (grammar.behind_declarator sp d) (grammar.behind_declarator sp d) (λ w. w) tokens.semicolon p (items_done context sp d is) context text last_tokens rest rest_got closes))
            right (omega (arith, deepest, b.deep, ap (λ w. specifiers_depth w) words)) shallow closes.ended (omega (arith, a.fewer, b.fewer, less))

-- ---- of texts whose first token isn't told apart

pub items_stop : (types : List ℕ) (scope : Scope) (text : List Token) → IsEnded text → (all : List SpecifierAt) (typedefs : Bool) → is_mark tokens.semicolon (sort_of_first types text) ≡ false → (d : ℕ) (s : ReadError) → IsStop (there types scope) (grammar.declarator grammar.concrete) d text s → IsStop (there types scope) (grammar.external_items (specified all typedefs)) d text s
items_stop types scope [] ended all typedefs other d s h = absurd ended
items_stop types scope (x ∷ xs) ended all typedefs other d s h = items_undeclared types scope (x ∷ xs) xs x refl all typedefs other d s h

pub items_whole : (types : List ℕ) (scope : Scope) (text : List Token) → IsEnded text → (all : List SpecifierAt) (typedefs : Bool) → is_mark tokens.semicolon (sort_of_first types text) ≡ false → (d m : ℕ) (mid : List Token) (head : Declared) (h : IsRead (there types scope) (grammar.declarator grammar.concrete) d text head m mid) (r : Result (Part ExternalPart) ReadError)
    → MatchResult r (λ part. IsRead (there types scope) (grammar.behind_declarator (specified all typedefs) head) d mid (external_part part.tree) part.depth part.rest.now) (IsStop (there types scope) (grammar.behind_declarator (specified all typedefs) head) d mid)
    → MatchResult r (λ part. IsRead (there types scope) (grammar.external_items (specified all typedefs)) d text (external_part part.tree) part.depth part.rest.now) (IsStop (there types scope) (grammar.external_items (specified all typedefs)) d text)
items_whole types scope [] ended all typedefs other d m mid head h r w = absurd ended
items_whole types scope (x ∷ xs) ended all typedefs other d m mid head h r w = items_result types scope (x ∷ xs) xs x refl all typedefs other d m mid head h r w

pub initial_stop : (types : List ℕ) (scope : Scope) (depth : ℕ) (text : List Token) → IsEnded text → (all : Specified) (d : Declared) → begins_body types text d ≡ false → (s : ReadError) → IsStop (there types scope) grammar.initial depth text s → IsStop (there types scope) (grammar.behind_declarator all d) depth text s
initial_stop types scope depth [] ended all d none s h = absurd ended
initial_stop types scope depth (x ∷ xs) ended all d none s h = rest_initial types scope depth (x ∷ xs) xs x refl all d none s h

pub items_inner : (types : List ℕ) (scope : Scope) (depth : ℕ) (text : List Token) → IsEnded text → (all : Specified) (d : Declared) → begins_body types text d ≡ false → (l : ℕ) (v : Option Init) (mid : List Token) → IsRead (there types scope) grammar.initial depth text v l mid → (first : Items) → first ≡ one_item d v → (s : ReadError) → IsStop (there types scope) (grammar.more_items first) depth mid s → IsStop (there types scope) (grammar.behind_declarator all d) depth text s
items_inner types scope depth [] ended all d none l v mid a first begins s h = absurd ended
items_inner types scope depth (x ∷ xs) ended all d none l v mid a first begins s h = rest_items types scope depth (x ∷ xs) xs x refl all d none l v mid a first begins s h

pub items_unclosed : (types : List ℕ) (scope : Scope) (depth : ℕ) (text : List Token) → IsEnded text → (all : Specified) (d : Declared) → begins_body types text d ≡ false → (l : ℕ) (v : Option Init) (mid : List Token) → IsRead (there types scope) grammar.initial depth text v l mid → (first : Items) → first ≡ one_item d v → (m : ℕ) (is : Items) (last_tokens : List Token) → IsRead (there types scope) (grammar.more_items first) depth mid is m last_tokens → (p : AlsoAllowed) → allowed_seen p ≡ is.behind → (s : ReadError) → IsUnexpected types scope tokens.semicolon p last_tokens s → IsStop (there types scope) (grammar.behind_declarator all d) depth text s
items_unclosed types scope depth [] ended all d none l v mid a first begins m is last_tokens b p behind s u = absurd ended
items_unclosed types scope depth (x ∷ xs) ended all d none l v mid a first begins m is last_tokens b p behind s u = rest_unclosed types scope depth (x ∷ xs) xs x refl all d none l v mid a first begins m is last_tokens b p behind s u

pub declaration_whole : (types : List ℕ) (scope : Scope) (depth : ℕ) (text : List Token) → IsEnded text → (all : Specified) (d : Declared) → begins_body types text d ≡ false → (l : ℕ) (v : Option Init) (mid : List Token) → IsRead (there types scope) grammar.initial depth text v l mid → (first : Items) → first ≡ one_item d v → (m : ℕ) (is : Items) (last_tokens : List Token) → IsRead (there types scope) (grammar.more_items first) depth mid is m last_tokens → (p : AlsoAllowed) → allowed_seen p ≡ is.behind → (n : ℕ) (rest : List Token) (written : Specifiers) (place : Place) (made : Declares) → IsExpected types tokens.semicolon last_tokens rest → written ≡ all_specifiers all.all → place_of_first all.all ≡ place → made ≡ declares (syntax.external_declaration (declaration written (init_declarators is.all) place)) (new_types all is.names) → n ≡ max (specifiers_depth written) m → n ≤ depth → IsRead (there types scope) (grammar.behind_declarator all d) depth text made n rest
declaration_whole types scope depth [] ended all d none l v mid a first begins m is last_tokens b p behind n rest written place made closes words spot same deepest shallow = absurd ended
declaration_whole types scope depth (x ∷ xs) ended all d none l v mid a first begins m is last_tokens b p behind n rest written place made closes words spot same deepest shallow = rest_read types scope depth (x ∷ xs) xs x refl all d none l v mid a first begins m is last_tokens b p behind n rest written place made closes words spot same deepest shallow
