-- Faults of external declarations, step by step: what fails in the body of a function is wanted in a function.
use Rattle.std.proofs.Common.{◌≡◌, ◌⊎◌, inl, inr, ℕ, Bool, true, false, List, [], ◌∷◌, ◌++◌, Some, None, refl, subst}
use Rattle.std.specs.Prelude.{Option, if◌then◌else◌, ◌||◌}
use Rattle.sp_parse_grammar.specs.CTokens as tokens
use Rattle.sp_parse_grammar.specs.CTokens.{is_mark, view as viewed, nothing_seen}
use Rattle.sp_parse_grammar.specs.CTable as grammar
use Rattle.sp_parse_grammar.specs.CTable.{Context, Specified, Declared, Ask, Answer, at, unit, whole, c_symbols, in_function, begins_specifiers}
use Rattle.sp_parse_grammar.specs.Table.{Plan, done, take, call, ask, Reads, read_done, read_call, Fails, fail_take, fail_later, fail_ask, fail_inside, fail_behind}
use Rattle.sp_parse_grammar.proofs.Readings.{read_or_fails, one_reading, fault_at_tokens}
use Rattle.sp_parse_tokens.specs.Sorts.{Terminal}
use Rattle.sp_parse_tokens.specs.SyntaxTrees.{syntax_trees, c_table}
use Rattle.sp_parse_tokens.specs.Depths.{Part}
use Rattle.sp_parse_tokens.specs.Faults.{Wanted, context_of}
use Rattle.sp_parse_fault_laws.proofs.Walks.{Plain, StartItem, inside}
use Rattle.sp_parse_fault_laws.proofs.WalkProductions.{each}

abbrev pub External : List ℕ → Ask syntax_trees
External types = at (grammar.outside types) grammar.external

abbrev pub Items : List ℕ → Specified syntax_trees → Ask syntax_trees
Items types sp = at (grammar.outside types) (grammar.external_items sp)

abbrev pub Behind : List ℕ → Specified syntax_trees → Declared syntax_trees → Ask syntax_trees
Behind types sp d = at (grammar.outside types) (grammar.behind_declarator sp d)

abbrev pub unit_plan : (types : List ℕ) → Plan (c_symbols syntax_trees) (unit types)
unit_plan types = call (External types) (λ e. call (unit (types ++ e.types)) (λ es. done (e.tree ∷ es)))

abbrev pub specified_plan : (types : List ℕ) → Plan (c_symbols syntax_trees) (External types)
specified_plan types = call (at (grammar.outside types) (grammar.specifiers true nothing_seen grammar.no_specifiers)) (λ sp. call (Items types sp) (λ r. done r))

abbrev pub declared_plan : (types : List ℕ) (sp : Specified syntax_trees) → Plan (c_symbols syntax_trees) (Items types sp)
declared_plan types sp = call (at (grammar.outside types) (grammar.declarator grammar.concrete)) (λ d. call (Behind types sp d) (λ r. done r))

-- behind a declarator with no body
abbrev pub initial_plan : (types : List ℕ) (sp : Specified syntax_trees) (d : Declared syntax_trees) → Plan (c_symbols syntax_trees) (Behind types sp d)
initial_plan types sp d =
    call (at (grammar.outside types) grammar.initial) (λ v. call (at (grammar.outside types) (grammar.more_items (grammar.one_item d v))) (λ is. take (grammar.only (grammar.outside types) is.behind tokens.semicolon)
    (λ z. done (record { tree = syntax_trees.declared (syntax_trees.declaration sp.all is.all); types = grammar.new_types sp is.names }))))

-- behind the brace of a body
abbrev pub body_plan : (types : List ℕ) (sp : Specified syntax_trees) (d : Declared syntax_trees) → Terminal → Plan (c_symbols syntax_trees) (Behind types sp d)
body_plan types sp d x =
    call (at (in_function (grammar.outside types)) (grammar.declarations [])) (λ ds. call (at (in_function (grammar.outside types)) (grammar.statements [])) (λ ss. take (grammar.only (in_function (grammar.outside types)) grammar.for_name tokens.unbrace)
    (λ z. done (record { tree = syntax_trees.definition sp.all d.tree (syntax_trees.block x ds ss z); types = grammar.new_types sp (grammar.with_name d.declares []) }))))

pub never_none : {n : Ask syntax_trees} (c : Bool) (p q : Plan (c_symbols syntax_trees) n) → (if c then Some p else Some q) ≡ None → ⊥
never_none true p q e = absurd cc
never_none false p q e = absurd cc

pub either_plan : {n : Ask syntax_trees} (c : Bool) (p q r : Plan (c_symbols syntax_trees) n) → (if c then Some p else Some q) ≡ Some r → (r ≡ p) ⊎ (r ≡ q)
either_plan true p q r e = inl cc
either_plan false p q r e = inr cc

pub asked_again : {m n : Ask syntax_trees} (f : Answer n → Answer m) {xs bad : List Terminal} {w : Wanted} → Fails c_table m (call n (λ a. done (f a))) xs w bad → Fails c_table n (ask n) xs w bad
asked_again f (fail_ask e) = fail_ask e
asked_again f (fail_inside e h) = fail_inside e h
asked_again f (fail_behind e r h) = elim h [ ]

pub no_done : {m : Ask syntax_trees} {o : Answer m} {xs bad : List Terminal} {w : Wanted} → Fails c_table m (done o) xs w bad → ⊥
no_done h = elim h [ ]

-- one token of any sort, and nothing behind it
no_token : {m : Ask syntax_trees} {f : Terminal → Answer m} {xs bad : List Terminal} {w : Wanted} → Fails c_table m (take grammar.any (λ y. done (f y))) xs w bad → ⊥
no_token (fail_take e) = absurd cc
no_token (fail_later e h) = no_done h

-- a part that was read stands before the fault
pub past : {m n : Ask syntax_trees} (k : Answer n → Plan (c_symbols syntax_trees) m) {xs mid bad : List Terminal} {a : Answer n} {w : Wanted} → Fails c_table m (call n k) xs w bad → Reads c_table n (ask n) xs a mid → Fails c_table m (k a) mid w bad
past {n = n} k {xs = xs} {mid = mid} {bad = bad} {a = a} {w = w} (fail_ask e) r = absurd (read_or_fails c_table n (ask n) xs mid bad a w (fail_ask e) r)
past {n = n} k {xs = xs} {mid = mid} {bad = bad} {a = a} {w = w} (fail_inside e h) r = absurd (read_or_fails c_table n (ask n) xs mid bad a w (fail_inside e h) r)
past {m = m} {n = n} k {xs = xs} {mid = mid} {bad = bad} {a = a} {w = w} (fail_behind {ys = ys} {a = o} e s h) r =
    let same = one_reading c_table n (ask n) xs ys mid o a (read_call e s read_done) r in
    subst (λ v. Fails c_table m (k v) mid w bad) same.0 (fault_at_tokens same.1 h)

-- what is wanted in a part
pub part_inside : (g : Context) (i : Part) (l : Bool) {xs bad : List Terminal} {w : Wanted} → Plain i → StartItem g i l xs → Fails c_table (at g i) (ask (at g i)) xs w bad → (context_of w).inside ≡ g.inside
part_inside g i l plain start h = inside each h l ((λ p. (refl, p)), start, λ a r ys e. e) plain

pub unit_step : (types : List ℕ) {xs bad : List Terminal} {w : Wanted} → Fails c_table (unit types) (ask (unit types)) xs w bad → Fails c_table (unit types) (unit_plan types) xs w bad
unit_step types (fail_ask {x = x} e) = absurd (never_none (is_mark tokens.semicolon (viewed types x.sort) || begins_specifiers true false (viewed types x.sort)) _ _ e)
unit_step types {bad = bad} {w = w} (fail_inside {q = q} {x = x} {xs = xs} e h) = elim (either_plan (is_mark tokens.semicolon (viewed types x.sort) || begins_specifiers true false (viewed types x.sort)) _ _ q e) [
  | inl same ↦ subst (λ v. Fails c_table (unit types) v (x ∷ xs) w bad) same h
  | inr same ↦ absurd (no_done (subst (λ v. Fails c_table (unit types) v (x ∷ xs) w bad) same h))
]
unit_step types (fail_behind e r h) = elim h [ ]

pub external_step : (types : List ℕ) {xs bad : List Terminal} {w : Wanted} → Fails c_table (External types) (ask (External types)) xs w bad → Fails c_table (External types) (specified_plan types) xs w bad
external_step types (fail_ask {x = x} e) = absurd (never_none (is_mark tokens.semicolon (viewed types x.sort)) _ _ e)
external_step types {bad = bad} {w = w} (fail_inside {q = q} {x = x} {xs = xs} e h) = elim (either_plan (is_mark tokens.semicolon (viewed types x.sort)) _ _ q e) [
  | inl same ↦ absurd (no_token (subst (λ v. Fails c_table (External types) v (x ∷ xs) w bad) same h))
  | inr same ↦ subst (λ v. Fails c_table (External types) v (x ∷ xs) w bad) same h
]
external_step types (fail_behind e r h) = elim h [ ]

pub items_step : (types : List ℕ) (sp : Specified syntax_trees) {xs bad : List Terminal} {w : Wanted} → Fails c_table (Items types sp) (ask (Items types sp)) xs w bad → Fails c_table (Items types sp) (declared_plan types sp) xs w bad
items_step types sp (fail_ask {x = x} e) = absurd (never_none (is_mark tokens.semicolon (viewed types x.sort)) _ _ e)
items_step types sp {bad = bad} {w = w} (fail_inside {q = q} {x = x} {xs = xs} e h) = elim (either_plan (is_mark tokens.semicolon (viewed types x.sort)) _ _ q e) [
  | inl same ↦ absurd (no_token (subst (λ v. Fails c_table (Items types sp) v (x ∷ xs) w bad) same h))
  | inr same ↦ subst (λ v. Fails c_table (Items types sp) v (x ∷ xs) w bad) same h
]
items_step types sp (fail_behind e r h) = elim h [ ]

-- ---- in a body

closed_inside : (types : List ℕ) (sp : Specified syntax_trees) (d : Declared syntax_trees) (f : Terminal → Answer (Behind types sp d)) {xs bad : List Terminal} {w : Wanted} → Fails c_table (Behind types sp d) (take (grammar.only (in_function (grammar.outside types)) grammar.for_name tokens.unbrace) (λ z. done (f z))) xs w bad → (context_of w).inside ≡ true
closed_inside types sp d f (fail_take e) = refl
closed_inside types sp d f (fail_later e h) = absurd (no_done h)

statements_inside : (types : List ℕ) (sp : Specified syntax_trees) (d : Declared syntax_trees) (f : List syntax_trees.Statement → Terminal → Answer (Behind types sp d)) {xs bad : List Terminal} {w : Wanted}
    → Fails c_table (Behind types sp d) (call (at (in_function (grammar.outside types)) (grammar.statements [])) (λ ss. take (grammar.only (in_function (grammar.outside types)) grammar.for_name tokens.unbrace) (λ z. done (f ss z)))) xs w bad → (context_of w).inside ≡ true
statements_inside types sp d f (fail_ask e) = refl
statements_inside types sp d f (fail_inside e h) = part_inside (in_function (grammar.outside types)) (grammar.statements []) false tt tt (fail_inside e h)
statements_inside types sp d f (fail_behind {a = ss} e r h) = closed_inside types sp d (f ss) h

pub body_inside : (types : List ℕ) (sp : Specified syntax_trees) (d : Declared syntax_trees) (x : Terminal) {xs bad : List Terminal} {w : Wanted} → Fails c_table (Behind types sp d) (body_plan types sp d x) xs w bad → (context_of w).inside ≡ true
body_inside types sp d x (fail_ask e) = refl
body_inside types sp d x (fail_inside e h) = part_inside (in_function (grammar.outside types)) (grammar.declarations []) false tt tt (fail_inside e h)
body_inside types sp d x (fail_behind {a = ds} e r h) = statements_inside types sp d (λ ss z. record { tree = syntax_trees.definition sp.all d.tree (syntax_trees.block x ds ss z); types = grammar.new_types sp (grammar.with_name d.declares []) }) h

-- ---- outside of one

last_outside : (types : List ℕ) (sp : Specified syntax_trees) (d : Declared syntax_trees) (is : grammar.Items syntax_trees) (f : Terminal → Answer (Behind types sp d)) {xs bad : List Terminal} {w : Wanted} → Fails c_table (Behind types sp d) (take (grammar.only (grammar.outside types) is.behind tokens.semicolon) (λ z. done (f z))) xs w bad → (context_of w).inside ≡ false
last_outside types sp d is f (fail_take e) = refl
last_outside types sp d is f (fail_later e h) = absurd (no_done h)

items_outside : (types : List ℕ) (sp : Specified syntax_trees) (d : Declared syntax_trees) (v : Option syntax_trees.Init) {xs bad : List Terminal} {w : Wanted} → Fails c_table (Behind types sp d) (call (at (grammar.outside types) (grammar.more_items (grammar.one_item d v))) (λ is. take (grammar.only (grammar.outside types) is.behind tokens.semicolon)
    (λ z. done (record { tree = syntax_trees.declared (syntax_trees.declaration sp.all is.all); types = grammar.new_types sp is.names })))) xs w bad → (context_of w).inside ≡ false
items_outside types sp d v (fail_ask e) = refl
items_outside types sp d v (fail_inside e h) = part_inside (grammar.outside types) (grammar.more_items (grammar.one_item d v)) false tt tt (fail_inside e h)
items_outside types sp d v (fail_behind {a = is} e r h) = last_outside types sp d is (λ z. record { tree = syntax_trees.declared (syntax_trees.declaration sp.all is.all); types = grammar.new_types sp is.names }) h

pub initial_outside : (types : List ℕ) (sp : Specified syntax_trees) (d : Declared syntax_trees) {xs bad : List Terminal} {w : Wanted} → Fails c_table (Behind types sp d) (initial_plan types sp d) xs w bad → (context_of w).inside ≡ false
initial_outside types sp d (fail_ask e) = refl
initial_outside types sp d (fail_inside e h) = part_inside (grammar.outside types) grammar.initial false tt tt (fail_inside e h)
initial_outside types sp d (fail_behind {a = v} e r h) = items_outside types sp d v h
