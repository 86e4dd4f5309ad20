-- Each levelled external declaration and unit is read from its tokens (C90 6.7).
use Rattle.std.proofs.Common.{◌≡◌, ℕ, ◌<◌, Bool, true, false, List, [], ◌∷◌, ◌++◌, refl, sym, ap, ap₂, ◌∙◌, subst, arith, append_assoc}
use Rattle.std.specs.Prelude.{⊤, is_some, ◌||◌, ◌&&◌, not}
use Rattle.sp_tree.specs.declared.token.Kind.{Kind}
use Rattle.sp_tree.specs.declared.token.Kind.TheVariants as kinds
use Rattle.sp_tree.specs.declared.token.Punct.TheVariants as puncts
use Rattle.sp_parse_trees.specs.Syntax as syntax
use Rattle.sp_parse_trees.specs.Syntax.{Declarator, Specifiers, MaybeInit, no_init, some_init, init_declarator, InitDeclarators, no_items, next_item, Declaration, declaration, Declarations, Statement, statement, Statements, External}
use Rattle.sp_parse_trees.specs.Spelling.{specifiers_tokens, declarator_tokens, maybe_init_tokens, items_tokens, declarations_tokens, statement_tokens, statements_tokens, external_tokens, unit_tokens}
use Rattle.sp_parse_trees.specs.Levels.{declared_name, is_variadic, new_types, is_specifier_list, AreLevelledSpecifiers, IsLevelledDeclarator, AreLevelledItems, IsLevelledStart, AreLevelledDeclarations, AreLevelledStatements, IsLevelledExternal, AreLevelledExternals, outside, within}
use Rattle.sp_parse_grammar.specs.CTokens as tokens
use Rattle.sp_parse_grammar.specs.CTokens.{Sort, view as viewed, is_mark, looseness, is_declaring}
use Rattle.sp_parse_grammar.specs.CTable as grammar
use Rattle.sp_parse_grammar.specs.CTable.{Context, Specified, Declared, at, unit, whole, in_function, begins_items, begins_specifiers, IsBehindSpecifiers, IsBehindItem}
use Rattle.sp_parse_grammar.specs.Table.{ask, Reads, read_done, read_take, read_call}
use Rattle.sp_parse_grammar.proofs.Readings.{join, at_tokens}
use Rattle.sp_parse_grammar.proofs.CChecked.{if_true, if_false}
use Rattle.sp_parse_grammar.proofs.CEndings.{c90_checked}
use Rattle.sp_parse_tokens.specs.Makers as make
use Rattle.sp_parse_tokens.specs.Sorts.{Terminal, nowhere}
use Rattle.sp_parse_tokens.specs.SyntaxTrees.{syntax_trees, c_table}
use Rattle.sp_parse_laws.specs.Spelled.{kinds_at}
use Rattle.sp_parse_laws.specs.Bare.{bare_specifiers, bare_declarator, bare_start, bare_items}
use Rattle.sp_parse_laws.proofs.Completing.{cut}
use Rattle.sp_parse_laws.proofs.CompleteExpressions.{none_left}
use Rattle.sp_parse_laws.proofs.CompleteParts.{Next}
use Rattle.sp_parse_laws.specs.BareUnits.{bare_statement, bare_external, bare_unit}
use Rattle.sp_parse_laws.proofs.Levelled.{units_levelled}
use Rattle.sp_parse_laws.proofs.Steps.{PlanRead, IsRead, next_kind, next_comma_or, next_maps, next_before, part, last_part, mark, finish, finished, begun, from_first}
use Rattle.sp_parse_laws.proofs.PartsRead.{specifiers_read, specifiers_first, declarator_read, declarator_first, items_stop_specifiers, items_no_semicolon, specifiers_no_semicolon}
use Rattle.sp_parse_laws.proofs.DeclarationsRead.{start_read, item_commas, more_items_read, declarations_read}
use Rattle.sp_parse_laws.proofs.StatementsRead.{unplaced}
use Rattle.sp_parse_laws.proofs.BlocksRead.{IsBehindStatements, behind_declarations, statements_read}
use Rattle.sp_parse_laws.proofs.BareNames.{bare_declared, bare_variadic, bare_new_types}

-- a declarator of a name, with what it makes of it
shaped_read : (g : Context) (d : Declarator) → is_some (declared_name d) ≡ true → IsLevelledDeclarator (record { types = g.types; inside = g.inside }) d → IsRead g (grammar.declarator grammar.concrete) (λ s. is_declaring s ≡ false) (declarator_tokens d) (λ o. (bare_declarator o.tree ≡ bare_declarator d) × (grammar.is_variadic o.shape ≡ is_variadic d))
shaped_read g d named h = record {
  read = λ ws rest e n.
      let r = (declarator_read g d named h).read ws rest e n in
      let shaped = units_levelled (at g (grammar.declarator grammar.concrete)) (ws ++ rest) rest r.answer r.read in
      let same_name : declared_name r.answer.tree ≡ declared_name d = sym (bare_declared r.answer.tree) ∙ ap declared_name r.holds ∙ bare_declared d in
      let same_shape : is_variadic r.answer.tree ≡ is_variadic d = sym (bare_variadic r.answer.tree) ∙ ap is_variadic r.holds ∙ bare_variadic d in
      record { answer = r.answer; read = r.read; holds = (r.holds, sym (shaped (ap is_some same_name ∙ named)).0 ∙ same_shape) };
}

no_body : (b c : Bool) → b ≡ false → b && c ≡ false
no_body true c e = absurd cc
no_body false c e = refl

-- ---- behind the first declarator

abbrev Anything : Sort → Type 0
Anything s = ⊤

abbrev TheDeclaration : Specified syntax_trees → Declared syntax_trees → MaybeInit → InitDeclarators → grammar.Declares syntax_trees → Type 0
TheDeclaration sp d v ms o = bare_external o.tree ≡ syntax.external_declaration (declaration (bare_specifiers (make.all_specifiers sp.all)) (next_item (init_declarator (bare_declarator d.tree) (bare_start v)) (bare_items ms)) nowhere)

no_brace_behind : (g : Context) (v : MaybeInit) (ms : InitDeclarators) (vs rest : List Terminal) → kinds_at vs ≡ maybe_init_tokens v ++ (items_tokens (kinds.Mark puncts.Comma ∷ []) ms ++ kinds.Mark puncts.Semicolon ∷ []) → Next g (λ s. is_mark tokens.brace s ≡ false) (vs ++ rest)
no_brace_behind g no_init ms vs rest e = next_comma_or g (λ s. is_mark tokens.brace s ≡ false) _ (kinds.Mark puncts.Semicolon ∷ []) vs rest (item_commas ms) refl (λ us f. next_kind g (λ s. is_mark tokens.brace s ≡ false) (kinds.Mark puncts.Semicolon) [] us rest refl f) e
no_brace_behind g (some_init i) ms vs rest e = next_kind g (λ s. is_mark tokens.brace s ≡ false) (kinds.Mark puncts.Assign) _ vs rest refl e

declared_behind : (g : Context) (sp : Specified syntax_trees) (d : Declared syntax_trees) (v : MaybeInit) (ms : InitDeclarators) → IsLevelledStart (record { types = g.types; inside = g.inside }) v → AreLevelledItems (record { types = g.types; inside = g.inside }) ms
    → IsRead g (grammar.behind_declarator sp d) Anything (maybe_init_tokens v ++ (items_tokens (kinds.Mark puncts.Comma ∷ []) ms ++ kinds.Mark puncts.Semicolon ∷ [])) (TheDeclaration sp d v ms)
declared_behind g sp d v ms hv hs = record {
  read = λ ws rest e n.
      from_first (ws ++ rest) rest (no_brace_behind g v ms ws rest e) (λ x s f. if_false (is_mark tokens.brace s && not (grammar.is_variadic d.shape)) _ _ (no_body (is_mark tokens.brace s) (not (grammar.is_variadic d.shape)) f))
      (part (maybe_init_tokens v) (items_tokens (kinds.Mark puncts.Comma ∷ []) ms ++ kinds.Mark puncts.Semicolon ∷ []) ws rest rest (start_read g v hv) e (λ vs e1. next_comma_or g (λ s. 12 < looseness s) _ (kinds.Mark puncts.Semicolon ∷ []) vs rest (item_commas ms) (omega arith) (λ us f. next_kind g (λ s. 12 < looseness s) (kinds.Mark puncts.Semicolon) [] us rest (omega arith) f) e1) (λ o vs same e1.
      part (items_tokens (kinds.Mark puncts.Comma ∷ []) ms) (kinds.Mark puncts.Semicolon ∷ []) vs rest rest (more_items_read g ms hs (grammar.one_item d o)) e1 (λ us e2. next_kind g IsBehindItem (kinds.Mark puncts.Semicolon) [] us rest (omega arith, refl) e2) (λ is us alike e2.
      mark (kinds.Mark puncts.Semicolon) [] us rest rest e2 refl (λ z ts k e3.
      finish _ ts rest e3 (ap (λ u. syntax.external_declaration (declaration (bare_specifiers (make.all_specifiers sp.all)) u nowhere)) (alike ∙ ap (λ u. next_item (init_declarator (bare_declarator d.tree) u) (bare_items ms)) same))))));
}

abbrev TheDefinition : Specified syntax_trees → Declared syntax_trees → Statement → grammar.Declares syntax_trees → Type 0
TheDefinition sp d b o = bare_external o.tree ≡ syntax.definition (bare_specifiers (make.all_specifiers sp.all)) (bare_declarator d.tree) (bare_statement b)

defined_behind : (types : List ℕ) (sp : Specified syntax_trees) (d : Declared syntax_trees) (ds : Declarations) (ss : Statements) → grammar.is_variadic d.shape ≡ false → AreLevelledDeclarations (within types) ds → AreLevelledStatements (within types) ss
    → IsRead (grammar.outside types) (grammar.behind_declarator sp d) Anything (kinds.Mark puncts.LeftBrace ∷ ((declarations_tokens ds ++ statements_tokens ss) ++ kinds.Mark puncts.RightBrace ∷ [])) (TheDefinition sp d (unplaced (syntax.block ds ss)))
defined_behind types sp d ds ss fixed hd hs = record {
  read = λ ws rest e n.
      let g = grammar.outside types in
      let f = in_function (grammar.outside types) in
      begun (kinds.Mark puncts.LeftBrace) _ (tokens.mark tokens.brace) ws rest rest e refl (λ x. if_true (is_mark tokens.brace (tokens.mark tokens.brace) && not (grammar.is_variadic d.shape)) _ _ (ap not fixed)) (λ x vs k e1.
      part (declarations_tokens ds) (statements_tokens ss ++ kinds.Mark puncts.RightBrace ∷ []) vs rest rest (declarations_read f ds hd []) (e1 ∙ append_assoc (declarations_tokens ds) (statements_tokens ss) (kinds.Mark puncts.RightBrace ∷ [])) (λ us e2. behind_declarations f ss hs us rest e2) (λ es us first e2.
      part (statements_tokens ss) (kinds.Mark puncts.RightBrace ∷ []) us rest rest (statements_read f ss hs []) e2 (λ ts e3. next_kind f IsBehindStatements (kinds.Mark puncts.RightBrace) [] ts rest (refl, refl) e3) (λ bs ts second e3.
      mark (kinds.Mark puncts.RightBrace) [] ts rest rest e3 refl (λ z us k1 e4. finish _ us rest e4 (ap₂ (λ u v. syntax.definition (bare_specifiers (make.all_specifiers sp.all)) (bare_declarator d.tree) (unplaced (syntax.block u v))) first second)))));
}

-- ---- behind the specifiers

-- what is read behind these specifiers makes this external declaration
abbrev ItemsRead : Context → Specified syntax_trees → List Kind → External → Type 0
ItemsRead g sp ks m = IsRead g (grammar.external_items sp) Anything ks (λ o. bare_external o.tree ≡ m)

none_behind : (g : Context) (sp : Specified syntax_trees) → ItemsRead g sp (kinds.Mark puncts.Semicolon ∷ []) (syntax.external_declaration (declaration (bare_specifiers (make.all_specifiers sp.all)) no_items nowhere))
none_behind g sp = record {
  read = λ ws rest e n. begun (kinds.Mark puncts.Semicolon) [] (tokens.mark tokens.semicolon) ws rest rest e refl (λ x. refl) (λ x vs k e1. finish _ vs rest e1 refl);
}

-- a declarator, and what is behind it
one_behind : (g : Context) (sp : Specified syntax_trees) (d : Declarator) (ks : List Kind) (m : Declarator → External) → is_some (declared_name d) ≡ true → IsLevelledDeclarator (record { types = g.types; inside = g.inside }) d → ((vs rest : List Terminal) → kinds_at vs ≡ ks → Next g Anything rest → Next g (λ s. is_declaring s ≡ false) (vs ++ rest))
    → ((o : Declared syntax_trees) → bare_declarator o.tree ≡ bare_declarator d → grammar.is_variadic o.shape ≡ is_variadic d → IsRead g (grammar.behind_declarator sp o) Anything ks (λ r. bare_external r.tree ≡ m (bare_declarator o.tree))) → ItemsRead g sp (declarator_tokens d ++ ks) (m (bare_declarator d))
one_behind g sp d ks m named h next behind = record {
  read = λ ws rest e n.
      from_first (ws ++ rest) rest (next_before g (λ s. begins_items s ≡ true) (declarator_tokens d) ks ws rest (λ us more f. declarator_first g d named h us more f) e) (λ x s f. if_false (is_mark tokens.semicolon s) _ _ (items_no_semicolon s f))
      (part (declarator_tokens d) ks ws rest rest (shaped_read g d named h) e (λ vs e1. next vs rest e1 n) (λ o vs same e1.
      last_part vs rest rest (behind o same.0 same.1) e1 n (λ r alike. finished r rest (alike ∙ ap m same.0))));
}

-- specifiers, and what is behind them
with_specifiers : (types : List ℕ) (ss : Specifiers) (ks : List Kind) (m : Specifiers → External) → is_specifier_list ss ≡ true → AreLevelledSpecifiers (outside types) ss → ((vs rest : List Terminal) → kinds_at vs ≡ ks → Next (grammar.outside types) IsBehindSpecifiers (vs ++ rest))
    → ((sp : Specified syntax_trees) → ItemsRead (grammar.outside types) sp ks (m (bare_specifiers (make.all_specifiers sp.all)))) → IsRead (grammar.outside types) grammar.external Anything (specifiers_tokens ss ++ ks) (λ o. bare_external o.tree ≡ m (bare_specifiers ss))
with_specifiers types ss ks m list each next behind = record {
  read = λ ws rest e n.
      let g = grammar.outside types in
      from_first (ws ++ rest) rest (next_before g (λ s. begins_specifiers true false s ≡ true) (specifiers_tokens ss) ks ws rest (λ us more f. specifiers_first g ss list refl each us more f) e) (λ x s f. if_false (is_mark tokens.semicolon s) _ _ (specifiers_no_semicolon false s f))
      (part (specifiers_tokens ss) ks ws rest rest (specifiers_read g ss list refl each) e (λ vs e1. next vs rest e1) (λ sp vs same e1.
      last_part vs rest rest (behind sp) e1 n (λ r alike. finished r rest (alike ∙ ap m same))));
}

-- ---- external declarations

first_of_declarator : (g : Context) (d : Declarator) (ks : List Kind) → is_some (declared_name d) ≡ true → IsLevelledDeclarator (record { types = g.types; inside = g.inside }) d → (vs rest : List Terminal) → kinds_at vs ≡ declarator_tokens d ++ ks → Next g IsBehindSpecifiers (vs ++ rest)
first_of_declarator g d ks named h vs rest e =
    next_maps g (λ s. begins_items s ≡ true) IsBehindSpecifiers (vs ++ rest) (λ s f. items_stop_specifiers s f)
    (next_before g (λ s. begins_items s ≡ true) (declarator_tokens d) ks vs rest (λ us more f. declarator_first g d named h us more f) e)

behind_the_first : (g : Context) (v : MaybeInit) (ms : InitDeclarators) (vs rest : List Terminal) → kinds_at vs ≡ maybe_init_tokens v ++ (items_tokens (kinds.Mark puncts.Comma ∷ []) ms ++ kinds.Mark puncts.Semicolon ∷ []) → Next g (λ s. is_declaring s ≡ false) (vs ++ rest)
behind_the_first g no_init ms vs rest e = next_comma_or g (λ s. is_declaring s ≡ false) _ (kinds.Mark puncts.Semicolon ∷ []) vs rest (item_commas ms) refl (λ us f. next_kind g (λ s. is_declaring s ≡ false) (kinds.Mark puncts.Semicolon) [] us rest refl f) e
behind_the_first g (some_init i) ms vs rest e = next_kind g (λ s. is_declaring s ≡ false) (kinds.Mark puncts.Assign) _ vs rest refl e

abbrev pub ExternalRead : List ℕ → External → Type 0
ExternalRead types e = IsRead (grammar.outside types) grammar.external Anything (external_tokens e) (λ o. bare_external o.tree ≡ bare_external e)

pub external_read : (types : List ℕ) (e : External) → IsLevelledExternal types e → ExternalRead types e
external_read types syntax.semicolon h = record {
  read = λ ws rest e n. begun (kinds.Mark puncts.Semicolon) [] (tokens.mark tokens.semicolon) ws rest rest e refl (λ x. refl) (λ x vs k e1. finish _ vs rest e1 refl);
}
external_read types (syntax.external_declaration (declaration ss no_items p)) h =
    let g = grammar.outside types in
    let same = append_assoc (specifiers_tokens ss) [] (kinds.Mark puncts.Semicolon ∷ []) in
    subst (λ ks. IsRead g grammar.external Anything ks (λ o. bare_external o.tree ≡ syntax.external_declaration (declaration (bare_specifiers ss) no_items nowhere))) (sym same)
    (with_specifiers types ss (kinds.Mark puncts.Semicolon ∷ []) (λ u. syntax.external_declaration (declaration u no_items nowhere)) h.0 h.2 (λ vs rest e. next_kind g IsBehindSpecifiers (kinds.Mark puncts.Semicolon) [] vs rest (refl, refl) e) (λ sp. none_behind g sp))
external_read types (syntax.external_declaration (declaration ss (next_item (init_declarator d v) ms) p)) h =
    let g = grammar.outside types in
    let here = h.3.0 in
    let ks = maybe_init_tokens v ++ (items_tokens (kinds.Mark puncts.Comma ∷ []) ms ++ kinds.Mark puncts.Semicolon ∷ []) in
    let same : (specifiers_tokens ss ++ ((declarator_tokens d ++ maybe_init_tokens v) ++ items_tokens (kinds.Mark puncts.Comma ∷ []) ms)) ++ kinds.Mark puncts.Semicolon ∷ [] ≡ specifiers_tokens ss ++ (declarator_tokens d ++ (maybe_init_tokens v ++ (items_tokens (kinds.Mark puncts.Comma ∷ []) ms ++ kinds.Mark puncts.Semicolon ∷ []))) = simp append_assoc refl in
    subst (λ ks. IsRead g grammar.external Anything ks (λ o. bare_external o.tree ≡ syntax.external_declaration (declaration (bare_specifiers ss) (next_item (init_declarator (bare_declarator d) (bare_start v)) (bare_items ms)) nowhere))) (sym same)
    (with_specifiers types ss (declarator_tokens d ++ ks) (λ u. syntax.external_declaration (declaration u (next_item (init_declarator (bare_declarator d) (bare_start v)) (bare_items ms)) nowhere)) h.0 h.2 (λ vs rest e. first_of_declarator g d ks here.0 here.1 vs rest e)
    (λ sp. one_behind g sp d ks (λ u. syntax.external_declaration (declaration (bare_specifiers (make.all_specifiers sp.all)) (next_item (init_declarator u (bare_start v)) (bare_items ms)) nowhere)) here.0 here.1 (λ vs rest e n. behind_the_first g v ms vs rest e) (λ o alike shape. declared_behind g sp o v ms here.2 h.3.1)))
external_read types (syntax.definition ss d (statement (syntax.block ds bs) p z)) h =
    let g = grammar.outside types in
    let ks = kinds.Mark puncts.LeftBrace ∷ ((declarations_tokens ds ++ statements_tokens bs) ++ kinds.Mark puncts.RightBrace ∷ []) in
    let same : (specifiers_tokens ss ++ declarator_tokens d) ++ kinds.Mark puncts.LeftBrace ∷ ((declarations_tokens ds ++ statements_tokens bs) ++ kinds.Mark puncts.RightBrace ∷ []) ≡ specifiers_tokens ss ++ (declarator_tokens d ++ kinds.Mark puncts.LeftBrace ∷ ((declarations_tokens ds ++ statements_tokens bs) ++ kinds.Mark puncts.RightBrace ∷ [])) = append_assoc (specifiers_tokens ss) (declarator_tokens d) _ in
    subst (λ ks. IsRead g grammar.external Anything ks (λ o. bare_external o.tree ≡ syntax.definition (bare_specifiers ss) (bare_declarator d) (bare_statement (unplaced (syntax.block ds bs))))) (sym same)
    (with_specifiers types ss (declarator_tokens d ++ ks) (λ u. syntax.definition u (bare_declarator d) (bare_statement (unplaced (syntax.block ds bs)))) h.0 h.1 (λ vs rest e. first_of_declarator g d ks h.2 h.3 vs rest e)
    (λ sp. one_behind g sp d ks (λ u. syntax.definition (bare_specifiers (make.all_specifiers sp.all)) u (bare_statement (unplaced (syntax.block ds bs)))) h.2 h.3 (λ vs rest e n. next_kind g (λ s. is_declaring s ≡ false) (kinds.Mark puncts.LeftBrace) _ vs rest refl e) (λ o alike shape. defined_behind types sp o ds bs (shape ∙ h.4) h.6.0 h.6.1)))
external_read types (syntax.definition ss d (statement _ p z)) h = absurd (let block = h.5 in cc)

-- ---- units

by_specifiers : (types : List ℕ) (ss : Specifiers) (ks : List Kind) → is_specifier_list ss ≡ true → AreLevelledSpecifiers (outside types) ss → (ws rest : List Terminal) → kinds_at ws ≡ specifiers_tokens ss ++ ks → Next (grammar.outside types) (λ s. is_mark tokens.semicolon s || begins_specifiers true false s ≡ true) (ws ++ rest)
by_specifiers types ss ks list each ws rest e =
    let g = grammar.outside types in
    next_maps g (λ s. begins_specifiers true false s ≡ true) (λ s. is_mark tokens.semicolon s || begins_specifiers true false s ≡ true) (ws ++ rest) (λ s b. or_second (is_mark tokens.semicolon s) (begins_specifiers true false s) b)
    (next_before g (λ s. begins_specifiers true false s ≡ true) (specifiers_tokens ss) ks ws rest (λ us more f. specifiers_first g ss list refl each us more f) e)
  where
    or_second : (a b : Bool) → b ≡ true → a || b ≡ true
    or_second true b e = refl
    or_second false b e = e

-- it begins so that a unit goes on with it
external_first : (types : List ℕ) (e : External) → IsLevelledExternal types e → (ws rest : List Terminal) → kinds_at ws ≡ external_tokens e → Next (grammar.outside types) (λ s. is_mark tokens.semicolon s || begins_specifiers true false s ≡ true) (ws ++ rest)
external_first types syntax.semicolon h ws rest e = next_kind (grammar.outside types) (λ s. is_mark tokens.semicolon s || begins_specifiers true false s ≡ true) (kinds.Mark puncts.Semicolon) [] ws rest refl e
external_first types (syntax.external_declaration (declaration ss is p)) h ws rest e = by_specifiers types ss _ h.0 h.2 ws rest (e ∙ append_assoc (specifiers_tokens ss) (items_tokens [] is) (kinds.Mark puncts.Semicolon ∷ []))
external_first types (syntax.definition ss d b) h ws rest e = by_specifiers types ss _ h.0 h.1 ws rest (e ∙ append_assoc (specifiers_tokens ss) (declarator_tokens d) (statement_tokens b))

-- the rest of a unit is read before the end of the text
abbrev pub UnitRead : List ℕ → List External → Type 0
UnitRead types es = (ws : List Terminal) (z : Terminal) (zs : List Terminal) → kinds_at ws ≡ unit_tokens es → z.sort ≡ tokens.mark tokens.end → PlanRead {m = unit types} (ask (unit types)) (λ o. bare_unit o ≡ bare_unit es) (ws ++ z ∷ zs) (z ∷ zs)

any_next : (types : List ℕ) (vs : List Terminal) (z : Terminal) (zs : List Terminal) → Next (grammar.outside types) Anything (vs ++ z ∷ zs)
any_next types [] z zs = record { first = z; rest = zs; whole = refl; holds = tt }
any_next types (x ∷ vs) z zs = record { first = x; rest = vs ++ z ∷ zs; whole = refl; holds = tt }

-- the names that are made names of types are those of the tree
types_made : (types : List ℕ) (e : External) (xs ys : List Terminal) (o : grammar.Declares syntax_trees) → Reads c_table (at (grammar.outside types) grammar.external) (ask (at (grammar.outside types) grammar.external)) xs o ys → bare_external o.tree ≡ bare_external e → new_types e ≡ o.types
types_made types e xs ys o r same =
    let made = units_levelled (at (grammar.outside types) grammar.external) xs ys o r refl in
    sym (sym (bare_new_types o.tree) ∙ ap new_types same ∙ bare_new_types e) ∙ made.types_are

pub unit_read : (types : List ℕ) (es : List External) → AreLevelledExternals types es → UnitRead types es
unit_read types [] h ws z zs e ends = record {
  answer = [];
  read = at_tokens (ap (λ v. v ++ z ∷ zs) (sym (none_left ws e))) ((c90_checked syntax_trees).ends (unit types) z zs ends);
  holds = refl;
}
unit_read types (e ∷ es) h ws z zs is ends =
    let c = cut ws (external_tokens e) (unit_tokens es) is in
    let rest = c.right ++ z ∷ zs in
    let r = (external_read types e h.0).read c.left rest c.left_is (any_next types c.right z zs) in
    let same = types_made types e (c.left ++ rest) rest r.answer r.read r.holds in
    let s = unit_read (types ++ r.answer.types) es (subst (λ ns. AreLevelledExternals (types ++ ns) es) same h.1) c.right z zs c.right_is ends in
    let n = external_first types e h.0 c.left rest c.left_is in
    let whole : ws ++ z ∷ zs ≡ n.first ∷ n.rest = ap (λ v. v ++ z ∷ zs) c.whole ∙ append_assoc c.left c.right (z ∷ zs) ∙ n.whole in
    record {
      answer = r.answer.tree ∷ s.answer;
      read = at_tokens (sym whole) (read_call (if_true (is_mark tokens.semicolon (viewed types n.first.sort) || begins_specifiers true false (viewed types n.first.sort)) _ _ n.holds) (join (at_tokens n.whole r.read) (join s.read read_done)) read_done);
      holds = ap₂ (λ u v. u ∷ v) r.holds s.holds;
    }

-- with the names that it makes names of types
pub external_with_types : (types : List ℕ) (e : External) → IsLevelledExternal types e → (ws : List Terminal) (z : Terminal) (zs : List Terminal) → kinds_at ws ≡ external_tokens e
    → PlanRead {m = at (grammar.outside types) grammar.external} (ask (at (grammar.outside types) grammar.external)) (λ o. (bare_external o.tree ≡ bare_external e) × (o.types ≡ new_types e)) (ws ++ z ∷ zs) (z ∷ zs)
external_with_types types e h ws z zs is =
    let r = (external_read types e h).read ws (z ∷ zs) is (any_next types [] z zs) in
    record { answer = r.answer; read = r.read; holds = (r.holds, sym (types_made types e (ws ++ z ∷ zs) (z ∷ zs) r.answer r.read r.holds)) }

-- with the end of the text, whatever is behind it
with_end : (es : List External) (xs : List Terminal) (z : Terminal) (zs : List Terminal) → z.sort ≡ tokens.mark tokens.end → Reads c_table (unit []) (ask (unit [])) xs es (z ∷ zs) → Reads c_table whole (ask whole) xs es zs
with_end es xs z zs ends (read_call e r read_done) = read_call refl (join (read_call e r read_done) (read_take (ap (is_mark tokens.end) ends) read_done)) read_done

pub whole_read : (es : List External) → AreLevelledExternals [] es → (ws : List Terminal) (z : Terminal) (zs : List Terminal) → kinds_at ws ≡ unit_tokens es → z.sort ≡ tokens.mark tokens.end → PlanRead {m = whole} (ask whole) (λ o. bare_unit o ≡ bare_unit es) (ws ++ z ∷ zs) zs
whole_read es h ws z zs e ends =
    let r = unit_read [] es h ws z zs e ends in
    record { answer = r.answer; read = with_end r.answer (ws ++ z ∷ zs) z zs ends r.read; holds = r.holds }
