-- What is wanted in a function is wanted behind tokens that end in the body of one.
use Rattle.std.proofs.Common.{◌≡◌, inl, inr, ℕ, zero, suc, ◌≤◌, true, false, List, [], ◌∷◌, ◌++◌, length, Some, refl, sym, ap, ap₂, ◌∙◌, subst, arith, append_assoc, length-append}
use Rattle.std.specs.Prelude.{is_some, ◌&&◌, not}
use Rattle.std.proofs.lemmas.List.{append_cancel_right, append_cancel_left, map-append}
use Rattle.sp_tree.specs.declared.token.Kind.{Kind}
use Rattle.sp_tree.specs.declared.token.Kind.TheVariants as kinds
use Rattle.sp_tree.specs.declared.token.Punct.TheVariants as puncts
use Rattle.sp_parse_trees.specs.Syntax as syntax
use Rattle.sp_parse_trees.specs.Syntax.{Statement}
use Rattle.sp_parse_trees.specs.Spelling.{specifiers_tokens, declarator_tokens, statement_tokens, external_tokens, unit_tokens}
use Rattle.sp_parse_trees.specs.Levels.{declared_name, IsLevelledExternal, AreLevelledExternals}
use Rattle.sp_parse_grammar.specs.CTokens.{is_mark, view as viewed, nothing_seen}
use Rattle.sp_parse_grammar.specs.CTokens as tokens
use Rattle.sp_parse_grammar.specs.CTable as grammar
use Rattle.sp_parse_grammar.specs.CTable.{Context, Specified, Declared, Ask, Answer, at, unit, whole, c_symbols}
use Rattle.sp_parse_grammar.specs.Table.{Plan, take, ask, Reads, read_done, read_take, read_call, Fails, fail_take, fail_later, fail_ask, fail_inside, fail_behind}
use Rattle.sp_parse_grammar.proofs.CEndings.{c90_checked}
use Rattle.sp_parse_grammar.proofs.Completions.{Completed, viable}
use Rattle.sp_parse_grammar.proofs.Moving.{fine, hollow, part_goes_on}
use Rattle.sp_parse_grammar.proofs.Readings.{front_of, fault_front, spelled, fault_spelled, read_or_fails, at_tokens}
use Rattle.sp_parse_tokens.specs.Makers as make
use Rattle.sp_parse_tokens.specs.Sorts.{Terminal}
use Rattle.sp_parse_tokens.specs.SyntaxTrees.{syntax_trees, c_table}
use Rattle.sp_parse_tokens.specs.Faults.{Wanted, context_of}
use Rattle.sp_parse_laws.specs.Spelled.{kinds_at}
use Rattle.sp_parse_laws.proofs.SpelledAnswers.{SSpecifiers, none_yet}
use Rattle.sp_parse_laws.proofs.SpelledTable.{is_spelled}
use Rattle.sp_parse_laws.proofs.SpellingDeclarators.{SD}
use Rattle.sp_parse_laws.proofs.LevelledAnswers.{LevelledSpecifiers, LevelledDeclarator}
use Rattle.sp_parse_laws.proofs.LevelledSpecifiers.{nothing_so_far}
use Rattle.sp_parse_laws.proofs.LevelledTable.{is_levelled}
use Rattle.sp_parse_laws.proofs.Lifts.{the_end}
use Rattle.sp_parse_laws.proofs.Levelled.{units_levelled}
use Rattle.sp_parse_laws.proofs.Shapes.{Shaped}
use Rattle.sp_parse_laws.proofs.Units.{units_spelled}
use Rattle.sp_parse_fault_laws.specs.Functions.{EndsInBody}
use Rattle.sp_parse_fault_laws.proofs.BodySteps.{External, Items, Behind, unit_plan, specified_plan, declared_plan, initial_plan, body_plan, never_none, either_plan, asked_again, part_inside, unit_step, external_step, items_step, initial_outside}

-- ---- the body

-- what is read with a body is a function with that
record Body (sp : Specified syntax_trees) (d : Declared syntax_trees) (o : grammar.Declares syntax_trees) : Type 0 where
  body : Statement
  is : o.tree ≡ syntax.definition (make.all_specifiers sp.all) d.tree body
  later : List Kind
  opens : statement_tokens body ≡ kinds.Mark puncts.LeftBrace ∷ later

body_read : (types : List ℕ) (sp : Specified syntax_trees) (d : Declared syntax_trees) (x : Terminal) {xs ys : List Terminal} {o : Answer (Behind types sp d)} → Reads c_table (Behind types sp d) (take grammar.any (λ v. body_plan types sp d x)) xs o ys → Body sp d o
body_read types sp d x (read_take e (read_call {a = ds} e1 r1 (read_call {a = ss} e2 r2 (read_take {x = z} e3 read_done)))) = record { body = syntax_trees.block x ds ss z; is = refl; later = _; opens = refl }

-- the head of a function, spelled and levelled
record Head (types : List ℕ) (sp : Specified syntax_trees) (d : Declared syntax_trees) (us vs : List Terminal) : Type 0 where
  specifiers : SSpecifiers us sp.all
  declarator : SD vs d.tree
  named : is_some (declared_name d.tree) ≡ true
  levelled_specifiers : LevelledSpecifiers (grammar.outside types) true sp
  levelled_declarator : LevelledDeclarator (grammar.outside types) grammar.concrete d
  shaped : Shaped d

-- more is read behind the tokens before the fault
some_rest : (types : List ℕ) (sp : Specified syntax_trees) (d : Declared syntax_trees) (y : Terminal) (ys : List Terminal) (b : Terminal) (more : List Terminal) (w : Wanted) {q : Plan (c_symbols syntax_trees) (Behind types sp d)} (front : List Terminal) (o : Answer (Behind types sp d)) → c_table.predict (Behind types sp d) y ≡ Some q → Fails c_table (Behind types sp d) q (y ∷ ys) w (b ∷ more)
    → y ∷ ys ≡ (y ∷ front) ++ b ∷ more → Reads c_table (Behind types sp d) q ((y ∷ front) ++ the_end ∷ []) o (the_end ∷ []) → ⊥
some_rest types sp d y ys b more w front o e h spelt r =
    let there : front_of r ≡ y ∷ front = append_cancel_right (front_of r) (y ∷ front) (the_end ∷ []) (sym (spelled r)) in
    let moved = part_goes_on c_table (c90_checked syntax_trees) e r b (inr tt) more in
    let here = at_tokens (ap (λ v. v ++ b ∷ more) there ∙ sym spelt) moved in
    read_or_fails c_table (Behind types sp d) (ask (Behind types sp d)) (y ∷ ys) (b ∷ more) (b ∷ more) o w (fail_inside e h) here

body_found : (types : List ℕ) (sp : Specified syntax_trees) (d : Declared syntax_trees) (us vs : List Terminal) (y : Terminal) (ys : List Terminal) (b : Terminal) (more : List Terminal) (w : Wanted) → Head types sp d us vs → c_table.predict (Behind types sp d) y ≡ Some (take grammar.any (λ v. body_plan types sp d y))
    → (front : List Terminal) → y ∷ ys ≡ (y ∷ front) ++ b ∷ more → Fails c_table (Behind types sp d) (take grammar.any (λ v. body_plan types sp d y)) (y ∷ ys) w (b ∷ more)
    → (c : Completed c_table (Behind types sp d) (take grammar.any (λ v. body_plan types sp d y)) (y ∷ front)) → (rest : List Terminal) → c.rest ≡ rest → EndsInBody types (kinds_at (us ++ (vs ++ y ∷ front)))
body_found types sp d us vs y ys b more w head e front spelt h c [] none =
    let r = c.reads the_end ((fine c_table (c90_checked syntax_trees) (Behind types sp d) y _ e).follows the_end tt) [] in
    absurd (some_rest types sp d y ys b more w front c.answer e h spelt (at_tokens (ap (λ v. (y ∷ front) ++ (v ++ the_end ∷ [])) none) r))
body_found types sp d us vs y ys b more w head e front spelt h c (k ∷ ks) some =
    let r = c.reads the_end ((fine c_table (c90_checked syntax_trees) (Behind types sp d) y _ e).follows the_end tt) [] in
    let ws = (y ∷ front) ++ (k ∷ ks) in
    let there : (y ∷ front) ++ (c.rest ++ the_end ∷ []) ≡ ws ++ the_end ∷ [] = ap (λ v. (y ∷ front) ++ (v ++ the_end ∷ [])) some ∙ sym (append_assoc (y ∷ front) (k ∷ ks) (the_end ∷ [])) in
    let whole = at_tokens there (read_call e r read_done) in
    let function = body_read types sp d y r in
    let levelled = units_levelled (Behind types sp d) (ws ++ the_end ∷ []) (the_end ∷ []) c.answer whole refl head.levelled_specifiers head.levelled_declarator head.shaped in
    let spells = (units_spelled (Behind types sp d) ws (the_end ∷ []) c.answer whole us vs head.specifiers (head.declarator, head.named)).spells in
    let first : specifiers_tokens (make.all_specifiers sp.all) ≡ kinds_at us = head.specifiers.all.spells in
    let second : declarator_tokens d.tree ≡ kinds_at vs = head.declarator.spells in
    let all : kinds_at us ++ (kinds_at vs ++ statement_tokens function.body) ≡ kinds_at us ++ (kinds_at vs ++ kinds_at ws) =
    ap₂ (λ p q. p ++ (q ++ statement_tokens function.body)) (sym first) (sym second) ∙ sym (append_assoc (specifiers_tokens (make.all_specifiers sp.all)) (declarator_tokens d.tree) (statement_tokens function.body)) ∙ ap external_tokens (sym function.is) ∙ spells ∙ map-append (λ x. x.what.kind) us (vs ++ ws) ∙ ap (λ v. kinds_at us ++ v) (map-append (λ x. x.what.kind) vs ws) in
    let own : statement_tokens function.body ≡ kinds_at ws = append_cancel_left (kinds_at vs) (statement_tokens function.body) (kinds_at ws) (append_cancel_left (kinds_at us) (kinds_at vs ++ statement_tokens function.body) (kinds_at vs ++ kinds_at ws) all) in
    let is_brace : y.what.kind ≡ kinds.Mark puncts.LeftBrace = (let opened : kinds.Mark puncts.LeftBrace ∷ function.later ≡ y.what.kind ∷ kinds_at (front ++ (k ∷ ks)) = sym function.opens ∙ own in cc) in
    record {
      before = [];
      specifiers = make.all_specifiers sp.all;
      declarator = d.tree;
      body = function.body;
      inner = kinds_at front;
      next = k.what.kind;
      rest = kinds_at ks;
      levelled = (subst (λ v. IsLevelledExternal types v) function.is levelled.levelled, tt);
      tokens = map-append (λ x. x.what.kind) us (vs ++ y ∷ front) ∙ ap (λ v. kinds_at us ++ v) (map-append (λ x. x.what.kind) vs (y ∷ front)) ∙ ap₂ (λ p q. p ++ (q ++ y.what.kind ∷ kinds_at front)) (sym first) (sym second) ∙ ap (λ v. specifiers_tokens (make.all_specifiers sp.all) ++ (declarator_tokens d.tree ++ v ∷ kinds_at front)) is_brace;
      ends = own ∙ map-append (λ x. x.what.kind) (y ∷ front) (k ∷ ks) ∙ ap (λ v. (v ∷ kinds_at front) ++ k.what.kind ∷ kinds_at ks) is_brace;
    }

by_body : (types : List ℕ) (sp : Specified syntax_trees) (d : Declared syntax_trees) (us vs : List Terminal) (y : Terminal) (ys : List Terminal) (b : Terminal) (more : List Terminal) (w : Wanted) → Head types sp d us vs → c_table.predict (Behind types sp d) y ≡ Some (take grammar.any (λ v. body_plan types sp d y))
    → (h : Fails c_table (Behind types sp d) (take grammar.any (λ v. body_plan types sp d y)) (y ∷ ys) w (b ∷ more)) → EndsInBody types (kinds_at (us ++ (vs ++ fault_front h)))
by_body types sp d us vs y ys b more w head e (fail_take f) = absurd cc
by_body types sp d us vs y ys b more w head e (fail_later f h) =
    let c = viable c_table (c90_checked syntax_trees) (fail_later f h) in
    body_found types sp d us vs y ys b more w head e (fault_front h) (ap (λ v. y ∷ v) (fault_spelled h)) (fail_later f h) c c.rest refl

behind_found : (types : List ℕ) (sp : Specified syntax_trees) (d : Declared syntax_trees) (us vs front xs : List Terminal) (b : Terminal) (more : List Terminal) (w : Wanted) → Head types sp d us vs → (context_of w).inside ≡ true → xs ≡ front ++ b ∷ more → Fails c_table (Behind types sp d) (ask (Behind types sp d)) xs w (b ∷ more) → EndsInBody types (kinds_at (us ++ (vs ++ front)))
behind_found types sp d us vs front xs b more w head within spelt (fail_ask {x = y} e) = absurd (never_none (is_mark tokens.brace (viewed types y.sort) && not (grammar.is_variadic d.shape)) _ _ e)
behind_found types sp d us vs front xs b more w head within spelt (fail_inside {q = q} {x = y} {xs = ys} e h) = elim (either_plan (is_mark tokens.brace (viewed types y.sort) && not (grammar.is_variadic d.shape)) (take grammar.any (λ v. body_plan types sp d y)) (initial_plan types sp d) q e) [
  | inl same ↦
      let there = subst (λ v. Fails c_table (Behind types sp d) v (y ∷ ys) w (b ∷ more)) same h in
      let order : fault_front there ≡ front = append_cancel_right (fault_front there) front (b ∷ more) (sym (fault_spelled there) ∙ spelt) in
      subst (λ v. EndsInBody types (kinds_at (us ++ (vs ++ v)))) order (by_body types sp d us vs y ys b more w head (e ∙ ap (λ v. Some v) same) there)
  | inr same ↦ absurd (let outside : (context_of w).inside ≡ false = initial_outside types sp d (subst (λ v. Fails c_table (Behind types sp d) v (y ∷ ys) w (b ∷ more)) same h) in let apart : true ≡ false = sym within ∙ outside in cc)
]
behind_found types sp d us vs front xs b more w head within spelt (fail_behind e r h) = elim h [ ]

-- ---- the head

no_outside : (w : Wanted) → (context_of w).inside ≡ true → (context_of w).inside ≡ false → ⊥
no_outside w e f = let apart : true ≡ false = sym e ∙ f in cc

items_found : (types : List ℕ) (sp : Specified syntax_trees) (us front xs : List Terminal) (b : Terminal) (more : List Terminal) (w : Wanted) → SSpecifiers us sp.all → LevelledSpecifiers (grammar.outside types) true sp → (context_of w).inside ≡ true → xs ≡ front ++ b ∷ more → Fails c_table (Items types sp) (declared_plan types sp) xs w (b ∷ more) → EndsInBody types (kinds_at (us ++ front))
items_found types sp us front xs b more w first each within spelt (fail_ask e) = absurd cc
items_found types sp us front xs b more w first each within spelt (fail_inside e h) = absurd (no_outside w within (part_inside (grammar.outside types) (grammar.declarator grammar.concrete) false tt tt (fail_inside e h)))
items_found types sp us front xs b more w first each within spelt (fail_behind {ys = mid} {a = d} e r h) =
    let g = grammar.outside types in
    let later = fault_front h in
    let there : mid ≡ later ++ b ∷ more = fault_spelled h in
    let order : front ≡ front_of r ++ later = append_cancel_right front (front_of r ++ later) (b ∷ more) (sym spelt ∙ spelled r ∙ ap (λ v. front_of r ++ v) there ∙ sym (append_assoc (front_of r) later (b ∷ more))) in
    let read = read_call e r read_done in
    let named = is_spelled (at g (grammar.declarator grammar.concrete)) (front_of r) mid d (at_tokens (spelled r) read) in
    let levelled = is_levelled (at g (grammar.declarator grammar.concrete)) (front_of r) mid d (at_tokens (spelled r) read) in
    let shaped = units_levelled (at g (grammar.declarator grammar.concrete)) xs mid d read in
    let head : Head types sp d us (front_of r) = record { specifiers = first; declarator = named.0; named = named.1; levelled_specifiers = each; levelled_declarator = levelled; shaped = shaped } in
    subst (λ v. EndsInBody types (kinds_at (us ++ v))) (sym order) (behind_found types sp d us (front_of r) later mid b more w head within there (asked_again (λ r. r) h))

external_found : (types : List ℕ) (front xs : List Terminal) (b : Terminal) (more : List Terminal) (w : Wanted) → (context_of w).inside ≡ true → xs ≡ front ++ b ∷ more → Fails c_table (External types) (specified_plan types) xs w (b ∷ more) → EndsInBody types (kinds_at front)
external_found types front xs b more w within spelt (fail_ask e) = absurd cc
external_found types front xs b more w within spelt (fail_inside e h) = absurd (no_outside w within (part_inside (grammar.outside types) (grammar.specifiers true nothing_seen grammar.no_specifiers) true tt (inr (inr refl)) (fail_inside e h)))
external_found types front xs b more w within spelt (fail_behind {ys = mid} {a = sp} e r h) =
    let g = grammar.outside types in
    let n = at g (grammar.specifiers true nothing_seen grammar.no_specifiers) in
    let later = fault_front h in
    let there : mid ≡ later ++ b ∷ more = fault_spelled h in
    let order : front ≡ front_of r ++ later = append_cancel_right front (front_of r ++ later) (b ∷ more) (sym spelt ∙ spelled r ∙ ap (λ v. front_of r ++ v) there ∙ sym (append_assoc (front_of r) later (b ∷ more))) in
    let read = read_call e r read_done in
    let first = is_spelled n (front_of r) mid sp (at_tokens (spelled r) read) [] none_yet (λ f. absurd cc) in
    let levelled = is_levelled n (front_of r) mid sp (at_tokens (spelled r) read) (nothing_so_far g true) in
    subst (λ v. EndsInBody types (kinds_at v)) (sym order) (items_found types sp (front_of r) later mid b more w first levelled within there (items_step types sp (asked_again (λ r. r) h)))

-- ---- units

reads_some : (types : List ℕ) (y : Terminal) (rest mid : List Terminal) (a : Answer (External types)) (q : Plan (c_symbols syntax_trees) (External types)) (e : c_table.predict (External types) y ≡ Some q) → (r : Reads c_table (External types) q (y ∷ rest) a mid) → 1 ≤ length (front_of r)
reads_some types y rest mid a q e r = by (front_of r) refl
  where
    by : (us : List Terminal) → front_of r ≡ us → 1 ≤ length (front_of r)
    by [] none = let shortest = hollow c_table (c90_checked syntax_trees) r none in let ending = ((fine c_table (c90_checked syntax_trees) (External types) y q e).hollow shortest.0).0 in absurd cc
    by (u ∷ us) some = let size : length (front_of r) ≡ length (u ∷ us) = ap length some in omega (arith, size)

-- an external declaration before it
behind_one : (types : List ℕ) (us later xs mid : List Terminal) (a : Answer (External types)) → xs ≡ us ++ mid → Reads c_table (External types) (ask (External types)) xs a mid → EndsInBody (types ++ a.types) (kinds_at later) → EndsInBody types (kinds_at (us ++ later))
behind_one types us later xs mid a spelt r f =
    let made = units_levelled (External types) xs mid a r refl in
    let spells : external_tokens a.tree ≡ kinds_at us = (units_spelled (External types) us mid a (at_tokens spelt r)).spells in
    let head = specifiers_tokens f.specifiers ++ (declarator_tokens f.declarator ++ kinds.Mark puncts.LeftBrace ∷ f.inner) in
    record {
      before = a.tree ∷ f.before;
      specifiers = f.specifiers;
      declarator = f.declarator;
      body = f.body;
      inner = f.inner;
      next = f.next;
      rest = f.rest;
      levelled = (made.levelled, subst (λ v. AreLevelledExternals (types ++ v) (f.before ++ syntax.definition f.specifiers f.declarator f.body ∷ [])) (sym made.types_are) f.levelled);
      tokens = map-append (λ x. x.what.kind) us later ∙ ap₂ (λ p q. p ++ q) (sym spells) f.tokens ∙ sym (append_assoc (external_tokens a.tree) (unit_tokens f.before) head);
      ends = f.ends;
    }

unit_found : (fuel : ℕ) (types : List ℕ) (front xs : List Terminal) (b : Terminal) (more : List Terminal) (w : Wanted) → length xs ≤ fuel → (context_of w).inside ≡ true → xs ≡ front ++ b ∷ more → Fails c_table (unit types) (unit_plan types) xs w (b ∷ more) → EndsInBody types (kinds_at front)
unit_found fuel types front xs b more w small within spelt (fail_ask e) = external_found types front xs b more w within spelt (external_step types (fail_ask e))
unit_found fuel types front xs b more w small within spelt (fail_inside e h) = external_found types front xs b more w within spelt (external_step types (fail_inside e h))
unit_found zero types front xs b more w small within spelt (fail_behind e r h) = absurd (omega (arith, small))
unit_found (suc fuel) types front xs b more w small within spelt (fail_behind {q = q} {x = y} {xs = rest} {ys = mid} {a = a} e r h) =
    let later = fault_front h in
    let there : mid ≡ later ++ b ∷ more = fault_spelled h in
    let size = ap length (spelled r) ∙ length-append (front_of r) mid in
    let some = reads_some types y rest mid a q e r in
    let order : front ≡ front_of r ++ later = append_cancel_right front (front_of r ++ later) (b ∷ more) (sym spelt ∙ spelled r ∙ ap (λ v. front_of r ++ v) there ∙ sym (append_assoc (front_of r) later (b ∷ more))) in
    let found = unit_found fuel (types ++ a.types) later mid b more w (omega (arith, small, size, some)) within there (unit_step (types ++ a.types) (asked_again (λ es. a.tree ∷ es) h)) in
    subst (λ v. EndsInBody types (kinds_at v)) (sym order) (behind_one types (front_of r) later (y ∷ rest) mid a (spelled r) (read_call e r read_done) found)

pub found : (types : List ℕ) (front : List Terminal) (b : Terminal) (more : List Terminal) (w : Wanted) → (context_of w).inside ≡ true → Fails c_table (unit types) (ask (unit types)) (front ++ b ∷ more) w (b ∷ more) → EndsInBody types (kinds_at front)
found types front b more w within h = unit_found (length (front ++ b ∷ more)) types front (front ++ b ∷ more) b more w (omega arith) within refl (unit_step types h)
