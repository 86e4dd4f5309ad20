-- The kind of a fault at the word `typedef` is TypedefAsOrdinaryName exactly in the body of a function.
use Rattle.std.proofs.Common.{◌≡◌, inr, ℕ, Bool, true, false, List, [], ◌∷◌, ◌++◌, refl, sym, ap, ◌∙◌, subst}
use Rattle.std.specs.Prelude.{Option, ⊤, ◌↔◌, ◌&&◌, ◌||◌, if◌then◌else◌}
use Rattle.std.proofs.lemmas.List.{map-append}
use Rattle.sp_tree.specs.declared.fault.FaultKind.{FaultKind}
use Rattle.sp_tree.specs.declared.fault.FaultKind.TheVariants.{UnexpectedToken, OldStyleParameters, ImplicitInt, VariadicDefinition, BitField, GnuWord, TypedefAsOrdinaryName, LongLong}
use Rattle.sp_tree.specs.declared.token.Kind.TheVariants.{Word}
use Rattle.sp_tree.specs.declared.token.Keyword.TheVariants.{Typedef}
use Rattle.sp_tree.specs.declared.token.Token.{Token}
use Rattle.sp_parse_grammar.specs.CTokens as tokens
use Rattle.sp_parse_grammar.specs.CTokens.{Sort, is_mark, is_name, view as viewed}
use Rattle.sp_parse_grammar.specs.CTable as grammar
use Rattle.sp_parse_grammar.specs.CTable.{Ask, Answer, at, unit, whole, c_symbols, begins_specifiers}
use Rattle.sp_parse_grammar.specs.Table.{Plan, done, take, call, ask, Reads, read_done, read_call, Fails, fail_take, fail_later, fail_ask, fail_inside, fail_behind}
use Rattle.sp_parse_grammar.proofs.Readings.{at_rest, fault_at_tokens}
use Rattle.sp_parse_tokens.specs.Sorts.{Terminal, terminal, sort_of, c_tokens}
use Rattle.sp_parse_tokens.specs.SyntaxTrees.{syntax_trees, c_table}
use Rattle.sp_parse_tokens.specs.Depths.{Part}
use Rattle.sp_parse_tokens.specs.Faults.{Wanted, context_of, sort_there, begins_parameter, wants_type, ends_with_dots, takes_name, begins_declarator, is_type_name, is_long, ends_with_opening, ends_with_long, fault_of}
use Rattle.sp_parse_laws.proofs.Lifts.{kinds_of_tokens}
use Rattle.sp_parse_laws.proofs.Between.{BetweenAt, none_said, fact_of}
use Rattle.sp_parse_fault_laws.specs.Functions.{EndsInBody, AreTypedefsTold, TypedefsAreTold}
use Rattle.sp_parse_fault_laws.proofs.Walks.{Plain, StartItem}
use Rattle.sp_parse_fault_laws.proofs.BodySteps.{part_inside, no_done}
use Rattle.sp_parse_fault_laws.proofs.InsideBodies.{unit_inside}
use Rattle.sp_parse_fault_laws.proofs.FoundBodies.{found}

-- ---- the kind

-- the kind, where the token is of this sort
abbrev kind_at : Wanted → List Token → Sort → FaultKind
kind_at w front s =
    if begins_parameter w && is_name s then OldStyleParameters
    else if wants_type w && begins_declarator s then ImplicitInt
    else if ends_with_dots w && is_mark tokens.brace s then VariadicDefinition
    else if (context_of w).members && is_mark tokens.colon s then BitField
    else if ends_with_opening false front && is_mark tokens.brace s then GnuWord
    else if takes_name w && is_type_name s || (context_of w).inside && is_mark tokens.typedef s then TypedefAsOrdinaryName
    else if ends_with_long false front && is_long s then LongLong
    else UnexpectedToken

passed : (b : Bool) (k other : FaultKind) → (if b && false then k else other) ≡ other
passed true k other = refl
passed false k other = refl

by_note : (takes inside long : Bool) → (if takes && false || inside && true then TypedefAsOrdinaryName else if long && false then LongLong else UnexpectedToken) ≡ (if inside then TypedefAsOrdinaryName else UnexpectedToken)
by_note true true long = refl
by_note true false true = refl
by_note true false false = refl
by_note false true long = refl
by_note false false true = refl
by_note false false false = refl

of_typedef : (w : Wanted) (front : List Token) → kind_at w front (tokens.mark tokens.typedef) ≡ (if (context_of w).inside then TypedefAsOrdinaryName else UnexpectedToken)
of_typedef w front = passed (begins_parameter w) _ _ ∙ passed (wants_type w) _ _ ∙ passed (ends_with_dots w) _ _ ∙ passed (context_of w).members _ _ ∙ passed (ends_with_opening false front) _ _ ∙ by_note (takes_name w) (context_of w).inside (ends_with_long false front)

is_u9 : (b : Bool) → (if b then TypedefAsOrdinaryName else UnexpectedToken) ≡ TypedefAsOrdinaryName → b ≡ true
is_u9 true e = refl
is_u9 false e = absurd cc

-- At the word the fault is TypedefAsOrdinaryName exactly where what is wanted is wanted in a function.
by_its_place : (w : Wanted) (front : List Token) (bad : Token) → bad.kind ≡ Word Typedef → (fault_of w front bad ≡ TypedefAsOrdinaryName) ↔ ((context_of w).inside ≡ true)
by_its_place w front bad e =
    let there : sort_there w bad ≡ tokens.mark tokens.typedef = ap (λ k. viewed (context_of w).types (sort_of k)) e in
    let kind : fault_of w front bad ≡ (if (context_of w).inside then TypedefAsOrdinaryName else UnexpectedToken) = ap (kind_at w front) there ∙ of_typedef w front in
    (λ f. is_u9 (context_of w).inside (sym kind ∙ f), λ f. kind ∙ ap (λ b. if b then TypedefAsOrdinaryName else UnexpectedToken) f)

-- ---- units

-- what is wanted at the end of the text is wanted in no function
end_outside : {es : List syntax_trees.External} {xs bad : List Terminal} {w : Wanted} → Fails c_table whole (take (grammar.only (grammar.outside []) grammar.for_external tokens.end) (λ z. done es)) xs w bad → ((context_of w).inside ≡ false) × (xs ≡ bad)
end_outside (fail_take e) = (refl, refl)
end_outside (fail_later e h) = absurd (no_done h)

abbrev whole_plan : Plan (c_symbols syntax_trees) whole
whole_plan = call (unit []) (λ es. take (grammar.only (grammar.outside []) grammar.for_external tokens.end) (λ z. done es))

whole_step : {xs bad : List Terminal} {w : Wanted} → Fails c_table whole (ask whole) xs w bad → Fails c_table whole whole_plan xs w bad
whole_step (fail_ask e) = absurd cc
whole_step {bad = bad} {w = w} (fail_inside {q = q} {x = x} {xs = xs} e h) = let same : q ≡ whole_plan = cc in subst (λ v. Fails c_table whole v (x ∷ xs) w bad) same h
whole_step (fail_behind e r h) = elim h [ ]

-- ---- a unit goes on with the word

next_typedef : List Terminal → Bool
next_typedef [] = false
next_typedef (x ∷ xs) = is_mark tokens.typedef x.sort

abbrev Ends : (n : Ask syntax_trees) → List Terminal → Answer n → List Terminal → Type 0
Ends (unit types) xs es ys = next_typedef ys ≡ false
Ends n xs o ys = ⊤

abbrev Nothing : (n : Ask syntax_trees) → List Terminal → Answer n → List Terminal → Type 0
Nothing n xs o ys = ⊤

not_typedef : (types : List ℕ) (s : Sort) → is_mark tokens.semicolon (viewed types s) || begins_specifiers true false (viewed types s) ≡ false → is_mark tokens.typedef s ≡ false
not_typedef types (tokens.mark tokens.typedef) e = absurd cc
not_typedef types _ e = refl

unit_if : (types : List ℕ) (xs : List Terminal) (c : Bool) (p q : Option (Plan (c_symbols syntax_trees) (unit types))) → BetweenAt {S = c_symbols syntax_trees} Ends Nothing (unit types) xs p → (c ≡ false → BetweenAt {S = c_symbols syntax_trees} Ends Nothing (unit types) xs q)
    → BetweenAt {S = c_symbols syntax_trees} Ends Nothing (unit types) xs (if c then p else q)
unit_if types xs true p q first second = first
unit_if types xs false p q first second = second refl

goes_on : (n : Ask syntax_trees) (x : Terminal) (xs : List Terminal) → BetweenAt {S = c_symbols syntax_trees} Ends Nothing n (x ∷ xs) (c_table.predict n x)
unfolding next_typedef
goes_on (at g i) x xs = none_said {S = c_symbols syntax_trees} Ends Nothing (at g i) (λ zs o ys. tt) (x ∷ xs) (c_table.predict (at g i) x)
goes_on (unit types) x xs = unit_if types (x ∷ xs) (is_mark tokens.semicolon (viewed types x.sort) || begins_specifiers true false (viewed types x.sort)) _ _ (λ a ys q p es zs r s. s) (λ e. not_typedef types x.sort e)
goes_on whole x xs = none_said {S = c_symbols syntax_trees} Ends Nothing whole (λ zs o ys. tt) (x ∷ xs) (c_table.predict whole x)

never_before : (types : List ℕ) (xs more : List Terminal) (es : List syntax_trees.External) (b : Terminal) → b.sort ≡ tokens.mark tokens.typedef → Reads c_table (unit types) (ask (unit types)) xs es (b ∷ more) → ⊥
unfolding next_typedef
never_before types xs more es b is_b r =
    let ends : is_mark tokens.typedef b.sort ≡ false = fact_of c_table Ends Nothing (λ n us vs o s. tt) goes_on r in
    let word : is_mark tokens.typedef b.sort ≡ true = ap (is_mark tokens.typedef) is_b in
    let apart : true ≡ false = sym word ∙ ends in
    cc

-- What fails at the word in a text fails in its unit.
in_unit : {xs : List Terminal} (b : Terminal) (more : List Terminal) {w : Wanted} → b.sort ≡ tokens.mark tokens.typedef → Fails c_table whole whole_plan xs w (b ∷ more) → Fails c_table (unit []) (ask (unit [])) xs w (b ∷ more)
in_unit b more is_b (fail_ask e) = fail_ask e
in_unit b more is_b (fail_inside e h) = fail_inside e h
in_unit b more is_b (fail_behind {x = y} {xs = rest} {a = es} e r h) = absurd (never_before [] (y ∷ rest) more es b is_b (at_rest (end_outside h).1 (read_call e r read_done)))

units_told : AreTypedefsTold (λ front. EndsInBody [] front) whole
units_told front bad more want h is_word =
    let there : c_tokens (front ++ bad ∷ more) ≡ c_tokens front ++ terminal bad ∷ c_tokens more = map-append terminal front (bad ∷ more) in
    let inner = in_unit (terminal bad) (c_tokens more) (ap sort_of is_word) (whole_step (fault_at_tokens there h)) in
    let note = by_its_place want front bad is_word in (
      λ e. subst (λ v. EndsInBody [] v) (kinds_of_tokens front) (found [] (c_tokens front) (terminal bad) (c_tokens more) want (note.0 e) inner),
      λ f. note.1 (unit_inside f.before [] f.specifiers f.declarator f.body f.inner f.next f.rest (c_tokens front) (terminal bad) (c_tokens more) want f.levelled (kinds_of_tokens front ∙ f.tokens) f.ends inner),
    )

-- ---- parts by themselves

part_told : (types : List ℕ) (i : Part) (l : Bool) → Plain i → ((xs : List Terminal) → StartItem (grammar.outside types) i l xs) → AreTypedefsTold (λ front. ⊥) (at (grammar.outside types) i)
part_told types i l plain start front bad more want h is_word =
    let outside : (context_of want).inside ≡ false = part_inside (grammar.outside types) i l plain (start _) h in
    let note = by_its_place want front bad is_word in
    (λ e. (let apart : true ≡ false = sym (note.0 e) ∙ outside in cc), λ f. absurd f)

pub typedefs_told : TypedefsAreTold
typedefs_told = record {
  in_units = units_told;
  in_expressions = λ types. part_told types (grammar.level 13) false tt (λ xs. tt);
  in_type_names = λ types. part_told types grammar.type_name false tt (λ xs. inr refl);
  in_specifiers = λ types. part_told types grammar.optional_specifiers false tt (λ xs. tt);
  in_declarators = λ types. part_told types (grammar.declarator grammar.concrete) false tt (λ xs. tt);
}
