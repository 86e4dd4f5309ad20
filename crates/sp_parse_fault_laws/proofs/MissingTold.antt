-- The kind of a fault at a token that begins a declarator, said by trees.
use Rattle.std.proofs.Common.{◌≡◌, ◌⊎◌, inl, inr, ℕ, Bool, true, false, List, [], ◌∷◌, ◌++◌, Some, None, refl, sym, ap, ◌∙◌, subst, append_assoc, arith}
use Rattle.std.specs.Prelude.{◌↔◌, ◌&&◌, ◌||◌}
use Rattle.std.proofs.lemmas.List.{map-append}
use Rattle.sp_tree.specs.declared.token.Kind.TheVariants as kinds
use Rattle.sp_tree.specs.declared.token.Keyword.TheVariants.{Float}
use Rattle.sp_tree.specs.declared.token.Token.{Token}
use Rattle.sp_parse_grammar.specs.CTokens as tokens
use Rattle.sp_parse_grammar.specs.CTokens.{Sort, is_name, view as viewed}
use Rattle.sp_parse_grammar.specs.CTable as grammar
use Rattle.sp_parse_grammar.specs.CTable.{Ask, Answer, at, unit, whole, c_symbols, plan}
use Rattle.sp_parse_grammar.specs.Table.{Plan, done, ask, wanted, asked, Heads, Fails, fail_take, fail_later, fail_ask, fail_inside, fail_behind}
use Rattle.sp_parse_grammar.proofs.Completions.{Completed}
use Rattle.sp_parse_grammar.proofs.Readings.{at_tokens, fault_at_tokens}
use Rattle.sp_parse_tokens.specs.Sorts.{Terminal, terminal, c_tokens, spare, nowhere}
use Rattle.sp_parse_tokens.specs.SyntaxTrees.{syntax_trees, c_table}
use Rattle.sp_parse_tokens.specs.Depths.{Part}
use Rattle.sp_parse_tokens.specs.Faults.{Wanted, sort_there, begins_parameter, wants_type, begins_declarator}
use Rattle.sp_parse_laws.specs.Spelled.{kinds_at}
use Rattle.sp_parse_laws.specs.Answers.{Language, kinds_of, expressions, type_names, specifier_lists, declarators}
use Rattle.sp_parse_laws.proofs.Lifts.{Reader, the_end, kinds_of_tokens, first_bad}
use Rattle.sp_parse_laws.proofs.Calls.{expression_reader, type_name_reader, specifiers_reader, declarator_reader}
use Rattle.sp_parse_fault_laws.specs.Missing.{CouldBeWord, AreTypesTold, MissingTypesAreTold}
use Rattle.sp_parse_fault_laws.proofs.Swaps.{or_true}
use Rattle.sp_parse_fault_laws.proofs.TypeNotes.{Beginning, named, starred, opened, beginning, tells_type, carried_item, Fits, Within}
use Rattle.sp_parse_fault_laws.proofs.PartTypes.{PlaceClaim, BeginsAt, NeverAtOnce, part_claim}
use Rattle.sp_parse_laws.specs.UnitAnswers.{units}
use Rattle.sp_parse_laws.proofs.WholeUnits.{unit_reader}
use Rattle.sp_parse_fault_laws.proofs.UnitTypes.{whole_claim}
use Rattle.sp_parse_fault_laws.proofs.MissingKinds.{by_its_notes}

-- the failing token isn't what was wanted
abbrev Refused : Wanted → Terminal → Type 0
Refused (wanted c) b = grammar.accepts c b ≡ false
Refused (asked n) b = c_table.predict n b ≡ None

refused : {m : Ask syntax_trees} {p : Plan (c_symbols syntax_trees) m} {xs bad : List Terminal} {w : Wanted} (b : Terminal) → Fails c_table m p xs w bad → Heads bad b → Refused w b
refused b (fail_take {c = d} e) head = subst (λ v. grammar.accepts d v ≡ false) head e
refused b (fail_later e h) head = refused b h head
refused b (fail_ask {n = n} e) head = subst (λ v. c_table.predict n v ≡ None) head e
refused b (fail_inside e h) head = refused b h head
refused b (fail_behind e r h) head = refused b h head

-- the notes of the faults are those of the swapping
noted : (w : Wanted) (b : Terminal) (j : Beginning) → BeginsAt w b j → Refused w b → begins_parameter w && is_name (beginning j) || wants_type w ≡ tells_type w
noted (wanted grammar.any) b j s r = refl
noted (wanted (grammar.ordinary g)) b j s r = refl
noted (wanted (grammar.only g grammar.plainly m)) b j s r = refl
noted (wanted (grammar.only g grammar.for_name m)) b j s r = refl
noted (wanted (grammar.only g grammar.for_parameter m)) b j s r = or_true (is_name (beginning j))
noted (wanted (grammar.only g grammar.for_member m)) b j s r = refl
noted (wanted (grammar.only g grammar.for_external m)) b j s r = refl
noted (wanted (grammar.only g grammar.for_body m)) b j s r = refl
noted (asked (at g (grammar.specifiers true seen sp))) b j s r = or_true _
noted (asked (at g (grammar.specifiers false seen sp))) b j s r = refl
noted (asked (at g (grammar.group grammar.concrete))) b j s r = refl
noted (asked (at g (grammar.group grammar.abstract))) b (named n) s r = refl
noted (asked (at g (grammar.group grammar.abstract))) b starred s r = absurd (let apart = sym r ∙ ap (plan g (grammar.group grammar.abstract) b) s in cc)
noted (asked (at g (grammar.group grammar.abstract))) b opened s r = absurd (let apart = sym r ∙ ap (plan g (grammar.group grammar.abstract) b) s in cc)
noted (asked (at g (grammar.group grammar.either))) b j s r = refl
noted (asked (at g i)) b j s r = refl
noted (asked (unit types)) b j s r = refl
noted (asked whole) b j s r = refl

beginning_of : (s : Sort) → begins_declarator s ≡ true → (j : Beginning) × (s ≡ beginning j)
beginning_of (tokens.name n) e = (named n, refl)
beginning_of (tokens.mark tokens.star) e = (starred, refl)
beginning_of (tokens.mark tokens.opening) e = (opened, refl)
beginning_of (tokens.mark m) e = absurd (let f = e in cc)
beginning_of _ e = absurd cc

-- the word, as a token
abbrev float_word : Token
float_word = spare (kinds.Word Float)

-- The ask of a text, at a token that begins a declarator and at the word.
abbrev Claims : Ask syntax_trees → Type 0
Claims n = (b x : Terminal) (j : Beginning) → x.sort ≡ tokens.basic tokens.float → (front rest : List Terminal) (w : Wanted) → BeginsAt w b j → Fails c_table n (ask n) (front ++ b ∷ rest) w (b ∷ rest) → PlaceClaim n x front w

module _ (L : Language) (types : List ℕ) (n : Ask syntax_trees) (r : Reader L types n) (claims : Claims n) where
  -- a text that was begun is that of a tree
  begun : (front : List Token) → Completed c_table n (ask n) (c_tokens front ++ terminal float_word ∷ []) → CouldBeWord Float L types front
  begun front c =
      let us = c_tokens front ++ terminal float_word ∷ [] in
      let here = at_tokens (sym (append_assoc us c.rest (the_end ∷ []))) (c.reads the_end (λ a. (r.stops, tt)) []) in
      let first : kinds_at us ≡ kinds_of front ++ kinds.Word Float ∷ [] = map-append (λ x. x.what.kind) (c_tokens front) (terminal float_word ∷ []) ∙ ap (λ v. v ++ kinds.Word Float ∷ []) (kinds_of_tokens front) in
      record {
        tree = r.tree c.answer nowhere;
        rest = kinds_at c.rest;
        levelled = r.levelled (us ++ c.rest) (the_end ∷ []) c.answer nowhere here;
        spells = r.spells (us ++ c.rest) (the_end ∷ []) c.answer nowhere here ∙ map-append (λ x. x.what.kind) us c.rest ∙ ap (λ v. v ++ kinds_at c.rest) first;
      }

  by_claim : (front : List Token) (want : Wanted) → PlaceClaim n (terminal float_word) (c_tokens front) want → (tells_type want ≡ true) ↔ CouldBeWord Float L types front
  by_claim front want claim = (
    λ e. begun front (claim.goes_on (sym claim.told ∙ e)),
    λ could. by_goes claim.goes refl could,
  )
    where
      by_goes : (g : Bool) → claim.goes ≡ g → CouldBeWord Float L types front → tells_type want ≡ true
      by_goes true e could = claim.told ∙ e
      by_goes false e could =
          let there : c_tokens front ++ terminal float_word ∷ [] ≡ c_tokens (front ++ float_word ∷ []) = sym (map-append terminal front (float_word ∷ [])) in
          absurd ((first_bad L types n r front float_word [] want (fault_at_tokens there (claim.stays e []))).nothing_goes_on could)

  are_told : AreTypesTold Float L types n
  are_told front bad more want h begins =
      let t = beginning_of (sort_there want bad) begins in
      let there : c_tokens (front ++ bad ∷ more) ≡ c_tokens front ++ terminal bad ∷ c_tokens more = map-append terminal front (bad ∷ more) in
      let moved = fault_at_tokens there h in
      let note = by_its_notes want front bad t.0 t.1 in
      let alike = noted want (terminal bad) t.0 t.1 (refused (terminal bad) moved refl) in
      let told = by_claim front want (claims (terminal bad) (terminal float_word) t.0 refl (c_tokens front) (c_tokens more) want t.1 moved) in
      (λ u. told.0 (sym alike ∙ note.0 u), λ could. note.1 (alike ∙ told.1 could))

part_told : (L : Language) (types : List ℕ) (i : Part) → Reader L types (at (grammar.outside types) i) → Within i → Fits i ⊎ NeverAtOnce types i → carried_item i ≡ false → AreTypesTold Float L types (at (grammar.outside types) i)
part_told L types i r within start plain = are_told L types (at (grammar.outside types) i) r (λ b x j is_x front rest w s h. part_claim types i within start plain b x j is_x front rest w s h)

-- no list of specifiers is read there
abbrev Specifiers : List ℕ → Ask syntax_trees
Specifiers types = at (grammar.outside types) grammar.optional_specifiers

none_there : (types : List ℕ) (b : Terminal) (j : Beginning) → viewed types b.sort ≡ beginning j → c_table.predict (Specifiers types) b ≡ Some (done grammar.no_specifiers)
none_there types b (named n) e = ap (plan (grammar.outside types) grammar.optional_specifiers b) e
none_there types b starred e = ap (plan (grammar.outside types) grammar.optional_specifiers b) e
none_there types b opened e = ap (plan (grammar.outside types) grammar.optional_specifiers b) e

no_done : {n : Ask syntax_trees} {o : Answer n} {xs bad : List Terminal} {w : Wanted} → Fails c_table n (done o) xs w bad → ⊥
no_done h = elim h [ ]

never_at_once : (types : List ℕ) → NeverAtOnce types grammar.optional_specifiers
never_at_once types b j e bad w head h = by_fault bad bad w head h
  where
    by_fault : (xs ys : List Terminal) (v : Wanted) → Heads xs b → Fails c_table (Specifiers types) (ask (Specifiers types)) xs v ys → ⊥
    by_fault [] ys v first f = absurd first
    by_fault (y ∷ rest) ys v first (fail_ask f) =
        let here : c_table.predict (Specifiers types) b ≡ None = subst (λ u. c_table.predict (Specifiers types) u ≡ None) first f in
        let apart : None ≡ Some (done grammar.no_specifiers) = sym here ∙ none_there types b j e in
        absurd cc
    by_fault (y ∷ rest) ys v first (fail_inside {q = q} f g) =
        let here : c_table.predict (Specifiers types) b ≡ Some q = subst (λ u. c_table.predict (Specifiers types) u ≡ Some q) first f in
        let plans : Some q ≡ Some (done grammar.no_specifiers) = sym here ∙ none_there types b j e in
        let same : q ≡ done grammar.no_specifiers = cc in
        no_done (subst (λ u. Fails c_table (Specifiers types) u (y ∷ rest) v ys) same g)
    by_fault (y ∷ rest) ys v first (fail_behind f r g) = elim g [ ]

pub types_told : MissingTypesAreTold
types_told = record {
  in_units = are_told units [] whole unit_reader (λ b x j is_x front rest w s h. whole_claim b x j is_x front rest w s h);
  in_expressions = λ types. part_told expressions types (grammar.level 13) (expression_reader types) (omega arith) (inl (omega arith)) refl;
  in_type_names = λ types. part_told type_names types grammar.type_name (type_name_reader types) tt (inl tt) refl;
  in_specifiers = λ types. part_told specifier_lists types grammar.optional_specifiers (specifiers_reader types) tt (inr (never_at_once types)) refl;
  in_declarators = λ types. part_told declarators types (grammar.declarator grammar.concrete) (declarator_reader types) tt (inl tt) refl;
}
