-- Where a unit fails behind tokens that end in the body of a function, what was wanted there is in a function.
use Rattle.std.proofs.Common.{◌≡◌, inr, ℕ, true, false, List, [], ◌∷◌, ◌++◌, length, Some, refl, sym, ap, ◌∙◌, subst, arith, append_assoc, length-append}
use Rattle.std.specs.Prelude.{is_some, ◌&&◌, not}
use Rattle.std.proofs.lemmas.List.{append_cancel_right, map-append}
use Rattle.sp_tree.specs.declared.token.Kind.{Kind}
use Rattle.sp_tree.specs.declared.token.Kind.TheVariants as kinds
use Rattle.sp_tree.specs.declared.token.Punct.TheVariants as puncts
use Rattle.sp_parse_trees.specs.Syntax as syntax
use Rattle.sp_parse_trees.specs.Syntax.{Specifiers, Declarator, Statement}
use Rattle.sp_parse_trees.specs.Spelling.{specifiers_tokens, declarator_tokens, statement_tokens, external_tokens, unit_tokens}
use Rattle.sp_parse_trees.specs.Levels.{declared_name, is_variadic, IsLevelledDeclarator, IsLevelledExternal, AreLevelledExternals, new_types}
use Rattle.sp_parse_grammar.specs.CTokens.{is_declaring}
use Rattle.sp_parse_grammar.specs.CTable as grammar
use Rattle.sp_parse_grammar.specs.CTable.{Context, Specified, Declared, Ask, Answer, at, unit, whole, c_symbols, plan, begins_items, IsBehindSpecifiers}
use Rattle.sp_parse_grammar.specs.Table.{Plan, done, take, call, ask, Reads, Fails, fail_take, fail_later, fail_ask, fail_inside, fail_behind}
use Rattle.sp_parse_grammar.proofs.CChecked.{if_true}
use Rattle.sp_parse_grammar.proofs.CEndings.{c90_checked}
use Rattle.sp_parse_grammar.proofs.Moving.{part_goes_on}
use Rattle.sp_parse_grammar.proofs.Readings.{front_of, fault_front, spelled, fault_spelled, one_reading, at_tokens, fault_at_tokens}
use Rattle.sp_parse_tokens.specs.Sorts.{Terminal, terminal, spare}
use Rattle.sp_parse_tokens.specs.SyntaxTrees.{syntax_trees, c_table}
use Rattle.sp_parse_tokens.specs.Faults.{Wanted, context_of}
use Rattle.sp_parse_laws.specs.Spelled.{kinds_at}
use Rattle.sp_parse_laws.proofs.Completing.{cut, head, sort_at}
use Rattle.sp_parse_laws.proofs.CompleteParts.{Next}
use Rattle.sp_parse_laws.proofs.Lifts.{the_end, of_kinds, kinds_of_kinds}
use Rattle.sp_parse_laws.specs.BareUnits.{bare_external}
use Rattle.sp_parse_laws.proofs.BareNames.{bare_declared, bare_variadic}
use Rattle.sp_parse_laws.proofs.Levelled.{units_levelled}
use Rattle.sp_parse_laws.proofs.PartsRead.{specifiers_read, declarator_read, declarator_first, items_stop_specifiers}
use Rattle.sp_parse_laws.proofs.Steps.{PlanRead, next_kind, next_maps, next_before}
use Rattle.sp_parse_laws.proofs.UnitsRead.{external_with_types}
use Rattle.sp_parse_fault_laws.proofs.BodySteps.{External, Behind, unit_plan, body_plan, asked_again, past, unit_step, external_step, items_step, body_inside}

-- ---- the body

-- behind a declarator that is no function with `...`, at the brace of a body
at_brace : (types : List ℕ) (sp : Specified syntax_trees) (d : Declared syntax_trees) (y : Terminal) → y.what.kind ≡ kinds.Mark puncts.LeftBrace → grammar.is_variadic d.shape ≡ false → c_table.predict (Behind types sp d) y ≡ Some (take grammar.any (λ v. body_plan types sp d y))
at_brace types sp d y is_brace fixed =
    ap (plan (grammar.outside types) (grammar.behind_declarator sp d) y) (sort_at types y (kinds.Mark puncts.LeftBrace) is_brace) ∙ if_true (true && not (grammar.is_variadic d.shape)) _ _ (ap not fixed)

taken : (types : List ℕ) (sp : Specified syntax_trees) (d : Declared syntax_trees) (y : Terminal) {xs bad : List Terminal} {w : Wanted} → Fails c_table (Behind types sp d) (take grammar.any (λ v. body_plan types sp d y)) xs w bad → (context_of w).inside ≡ true
taken types sp d y (fail_take e) = absurd cc
taken types sp d y (fail_later e h) = body_inside types sp d y h

behind_inside : (types : List ℕ) (sp : Specified syntax_trees) (d : Declared syntax_trees) (y : Terminal) (ys : List Terminal) {bad : List Terminal} {w : Wanted} → y.what.kind ≡ kinds.Mark puncts.LeftBrace → grammar.is_variadic d.shape ≡ false → Fails c_table (Behind types sp d) (ask (Behind types sp d)) (y ∷ ys) w bad → (context_of w).inside ≡ true
behind_inside types sp d y ys is_brace fixed (fail_ask e) = absurd (let there = at_brace types sp d y is_brace fixed in cc)
behind_inside types sp d y ys {bad = bad} {w = w} is_brace fixed (fail_inside {q = q} e h) =
    let there = at_brace types sp d y is_brace fixed in
    let same : q ≡ take grammar.any (λ v. body_plan types sp d y) = cc in
    taken types sp d y (subst (λ v. Fails c_table (Behind types sp d) v (y ∷ ys) w bad) same h)
behind_inside types sp d y ys is_brace fixed (fail_behind e r h) = elim h [ ]

-- ---- the head of a function

-- the declarator, with what it makes of its name
declarator_there : (types : List ℕ) (d : Declarator) → is_some (declared_name d) ≡ true → IsLevelledDeclarator (record { types = types; inside = false }) d → (ws rest : List Terminal) → kinds_at ws ≡ declarator_tokens d → Next (grammar.outside types) (λ s. is_declaring s ≡ false) rest
    → PlanRead {m = at (grammar.outside types) (grammar.declarator grammar.concrete)} (ask (at (grammar.outside types) (grammar.declarator grammar.concrete))) (λ o. grammar.is_variadic o.shape ≡ is_variadic d) (ws ++ rest) rest
declarator_there types d named h ws rest e n =
    let g = grammar.outside types in
    let r = (declarator_read g d named h).read ws rest e n in
    let shaped = units_levelled (at g (grammar.declarator grammar.concrete)) (ws ++ rest) rest r.answer r.read in
    let same_name : declared_name r.answer.tree ≡ declared_name d = sym (bare_declared r.answer.tree) ∙ ap declared_name r.holds ∙ bare_declared d in
    let same_shape : is_variadic r.answer.tree ≡ is_variadic d = sym (bare_variadic r.answer.tree) ∙ ap is_variadic r.holds ∙ bare_variadic d in
    record { answer = r.answer; read = r.read; holds = sym (shaped (ap is_some same_name ∙ named)).0 ∙ same_shape }

first_of_declarator : (g : Context) (d : Declarator) (ks : List Kind) → is_some (declared_name d) ≡ true → IsLevelledDeclarator (record { types = g.types; inside = g.inside }) d → (vs rest : List Terminal) → kinds_at vs ≡ declarator_tokens d ++ ks → Next g IsBehindSpecifiers (vs ++ rest)
first_of_declarator g d ks named h vs rest e =
    next_maps g (λ s. begins_items s ≡ true) IsBehindSpecifiers (vs ++ rest) (λ s f. items_stop_specifiers s f)
    (next_before g (λ s. begins_items s ≡ true) (declarator_tokens d) ks vs rest (λ us more f. declarator_first g d named h us more f) e)

abbrev Function : Specifiers → Declarator → Statement → syntax.External
Function ss d b = syntax.definition ss d b

external_inside : (types : List ℕ) (ss : Specifiers) (d : Declarator) (b : Statement) (inner : List Kind) (front bad : List Terminal) (w : Wanted) → IsLevelledExternal types (Function ss d b) → kinds_at front ≡ specifiers_tokens ss ++ (declarator_tokens d ++ kinds.Mark puncts.LeftBrace ∷ inner)
    → Fails c_table (External types) (ask (External types)) (front ++ bad) w bad → (context_of w).inside ≡ true
external_inside types ss d b inner front bad w h e fault =
    let g = grammar.outside types in
    let c1 = cut front (specifiers_tokens ss) (declarator_tokens d ++ kinds.Mark puncts.LeftBrace ∷ inner) e in
    let c2 = cut c1.right (declarator_tokens d) (kinds.Mark puncts.LeftBrace ∷ inner) c1.right_is in
    let brace = head c2.right (kinds.Mark puncts.LeftBrace) inner c2.right_is in
    let r1 = (specifiers_read g ss h.0 refl h.1).read c1.left (c1.right ++ bad) c1.left_is (first_of_declarator g d (kinds.Mark puncts.LeftBrace ∷ inner) h.2 h.3 c1.right bad c1.right_is) in
    let r2 = declarator_there types d h.2 h.3 c2.left (c2.right ++ bad) c2.left_is (next_kind g (λ s. is_declaring s ≡ false) (kinds.Mark puncts.LeftBrace) inner c2.right bad refl c2.right_is) in
    let there1 : front ++ bad ≡ c1.left ++ (c1.right ++ bad) = ap (λ v. v ++ bad) c1.whole ∙ append_assoc c1.left c1.right bad in
    let there2 : c1.right ++ bad ≡ c2.left ++ (c2.right ++ bad) = ap (λ v. v ++ bad) c2.whole ∙ append_assoc c2.left c2.right bad in
    let there3 : c2.right ++ bad ≡ brace.first ∷ (brace.rest ++ bad) = ap (λ v. v ++ bad) brace.whole in
    let f1 = past _ (external_step types (fault_at_tokens there1 fault)) r1.read in
    let f2 = past _ (items_step types r1.answer (fault_at_tokens there2 (asked_again (λ r. r) f1))) r2.read in
    behind_inside types r1.answer r2.answer brace.first (brace.rest ++ bad) brace.first_is (r2.holds ∙ h.4) (fault_at_tokens there3 (asked_again (λ r. r) f2))

-- ---- not behind the function

record Split (xs : List Terminal) : Type 0 where
  first : Terminal
  rest : List Terminal
  whole : xs ≡ first ∷ rest

split_first : (vs : List Terminal) (z : Terminal) (zs : List Terminal) → Split (vs ++ z ∷ zs)
split_first [] z zs = record { first = z; rest = zs; whole = refl }
split_first (v ∷ vs) z zs = record { first = v; rest = vs ++ z ∷ zs; whole = refl }

-- A function that lacks some of its body isn't read whole.
not_whole : (types : List ℕ) (e : syntax.External) (next : Kind) (more : List Kind) (front later : List Terminal) {q : Plan (c_symbols syntax_trees) (External types)} {y : Terminal} {rest mid : List Terminal} {a : Answer (External types)} → IsLevelledExternal types e → kinds_at front ++ next ∷ more ≡ external_tokens e
    → c_table.predict (External types) y ≡ Some q → (r : Reads c_table (External types) q (y ∷ rest) a mid) → front ≡ front_of r ++ later → ⊥
not_whole types e next more front later {a = a} h tokens chosen r order =
    let ws = front ++ of_kinds (next ∷ more) in
    let spelt : kinds_at ws ≡ external_tokens e = map-append (λ x. x.what.kind) front (of_kinds (next ∷ more)) ∙ ap (λ v. kinds_at front ++ v) (kinds_of_kinds (next ∷ more)) ∙ tokens in
    let full = external_with_types types e h ws the_end [] spelt in
    let behind = of_kinds (next ∷ more) ++ the_end ∷ [] in
    let s = split_first later (terminal (spare next)) (of_kinds more ++ the_end ∷ []) in
    let there : ws ++ the_end ∷ [] ≡ front_of r ++ s.first ∷ s.rest =
    append_assoc front (of_kinds (next ∷ more)) (the_end ∷ []) ∙ ap (λ v. v ++ behind) order ∙ append_assoc (front_of r) later behind ∙ ap (λ v. front_of r ++ v) s.whole in
    let short = part_goes_on c_table (c90_checked syntax_trees) chosen r s.first (inr tt) s.rest in
    let left = (one_reading c_table (External types) (ask (External types)) (ws ++ the_end ∷ []) (the_end ∷ []) (s.first ∷ s.rest) full.answer a full.read (at_tokens (sym there) short)).1 in
    let size : 1 ≡ length (later ++ behind) = ap length left ∙ ap length (sym s.whole) in
    let parts = length-append later behind in
    let inner = length-append (of_kinds more) (the_end ∷ []) in
    absurd (omega (arith, size, parts, inner))

-- ---- units

first_inside : (types : List ℕ) (ss : Specifiers) (d : Declarator) (b : Statement) (inner : List Kind) (next : Kind) (more : List Kind) (front bad xs : List Terminal) (w : Wanted) → IsLevelledExternal types (Function ss d b) → kinds_at front ≡ specifiers_tokens ss ++ (declarator_tokens d ++ kinds.Mark puncts.LeftBrace ∷ inner)
    → statement_tokens b ≡ (kinds.Mark puncts.LeftBrace ∷ inner) ++ next ∷ more → xs ≡ front ++ bad → Fails c_table (unit types) (unit_plan types) xs w bad → (context_of w).inside ≡ true
first_inside types ss d b inner next more front bad xs w h e ends spelt (fail_ask f) = external_inside types ss d b inner front bad w h e (fault_at_tokens spelt (fail_ask f))
first_inside types ss d b inner next more front bad xs w h e ends spelt (fail_inside f g) = external_inside types ss d b inner front bad w h e (fault_at_tokens spelt (fail_inside f g))
first_inside types ss d b inner next more front bad xs w h e ends spelt (fail_behind {ys = mid} f r g) =
    let later = fault_front g in
    let order : front ≡ front_of r ++ later = append_cancel_right front (front_of r ++ later) bad (sym spelt ∙ spelled r ∙ ap (λ v. front_of r ++ v) (fault_spelled g) ∙ sym (append_assoc (front_of r) later bad)) in
    let whole : kinds_at front ++ next ∷ more ≡ (specifiers_tokens ss ++ declarator_tokens d) ++ statement_tokens b =
    ap (λ v. v ++ next ∷ more) e ∙ append_assoc (specifiers_tokens ss) (declarator_tokens d ++ kinds.Mark puncts.LeftBrace ∷ inner) (next ∷ more) ∙ ap (λ v. specifiers_tokens ss ++ v) (append_assoc (declarator_tokens d) (kinds.Mark puncts.LeftBrace ∷ inner) (next ∷ more) ∙ ap (λ v. declarator_tokens d ++ v) (sym ends)) ∙ sym (append_assoc (specifiers_tokens ss) (declarator_tokens d) (statement_tokens b)) in
    absurd (not_whole types (Function ss d b) next more front later h whole f r order)

-- an external declaration before the function, with what is behind it
external_there : (types : List ℕ) (e : syntax.External) → IsLevelledExternal types e → (ws vs : List Terminal) (z : Terminal) (zs : List Terminal) → kinds_at ws ≡ external_tokens e
    → PlanRead {m = External types} (ask (External types)) (λ o. (bare_external o.tree ≡ bare_external e) × (o.types ≡ new_types e)) (ws ++ (vs ++ z ∷ zs)) (vs ++ z ∷ zs)
external_there types e h ws [] z zs is = external_with_types types e h ws z zs is
external_there types e h ws (v ∷ vs) z zs is = external_with_types types e h ws v (vs ++ z ∷ zs) is

pub unit_inside : (before : List syntax.External) (types : List ℕ) (ss : Specifiers) (d : Declarator) (b : Statement) (inner : List Kind) (next : Kind) (more : List Kind) (front : List Terminal) (x : Terminal) (rest : List Terminal) (w : Wanted) → AreLevelledExternals types (before ++ Function ss d b ∷ [])
    → kinds_at front ≡ unit_tokens before ++ (specifiers_tokens ss ++ (declarator_tokens d ++ kinds.Mark puncts.LeftBrace ∷ inner)) → statement_tokens b ≡ (kinds.Mark puncts.LeftBrace ∷ inner) ++ next ∷ more
    → Fails c_table (unit types) (ask (unit types)) (front ++ x ∷ rest) w (x ∷ rest) → (context_of w).inside ≡ true
unit_inside [] types ss d b inner next more front x rest w h e ends fault = first_inside types ss d b inner next more front (x ∷ rest) (front ++ x ∷ rest) w h.0 e ends refl (unit_step types fault)
unit_inside (o ∷ os) types ss d b inner next more front x rest w h e ends fault =
    let head = specifiers_tokens ss ++ (declarator_tokens d ++ kinds.Mark puncts.LeftBrace ∷ inner) in
    let c = cut front (external_tokens o) (unit_tokens os ++ head) (e ∙ append_assoc (external_tokens o) (unit_tokens os) head) in
    let r = external_there types o h.0 c.left c.right x rest c.left_is in
    let there : front ++ x ∷ rest ≡ c.left ++ (c.right ++ x ∷ rest) = ap (λ v. v ++ x ∷ rest) c.whole ∙ append_assoc c.left c.right (x ∷ rest) in
    let f = past (λ a. call (unit (types ++ a.types)) (λ es. done (a.tree ∷ es))) (unit_step types (fault_at_tokens there fault)) r.read in
    let levelled = subst (λ v. AreLevelledExternals (types ++ v) (os ++ Function ss d b ∷ [])) (sym r.holds.1) h.1 in
    unit_inside os (types ++ r.answer.types) ss d b inner next more c.right x rest w levelled c.right_is ends (asked_again (λ es. r.answer.tree ∷ es) f)
