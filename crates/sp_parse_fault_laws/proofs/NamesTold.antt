-- The kind of a fault at a type name, said by trees.
use Rattle.std.proofs.Common.{◌≡◌, ℕ, Bool, true, false, List, [], ◌∷◌, ◌++◌, refl, sym, ap, ◌∙◌, append_assoc, arith}
use Rattle.std.specs.Prelude.{◌↔◌, if◌then◌else◌}
use Rattle.std.proofs.lemmas.List.{map-append}
use Rattle.sp_tree.specs.declared.token.Kind.TheVariants as kinds
use Rattle.sp_tree.specs.declared.token.Token.{Token}
use Rattle.sp_parse_grammar.specs.CTokens as tokens
use Rattle.sp_parse_grammar.specs.CTokens.{Sort, is_name}
use Rattle.sp_parse_grammar.specs.CTable as grammar
use Rattle.sp_parse_grammar.specs.CTable.{Ask, at, unit, whole}
use Rattle.sp_parse_grammar.specs.Table.{ask, wanted, asked, Fails}
use Rattle.sp_parse_grammar.proofs.Completions.{Completed}
use Rattle.sp_parse_grammar.proofs.Readings.{at_tokens, fault_at_tokens}
use Rattle.sp_parse_tokens.specs.Sorts.{Terminal, terminal, c_tokens, sort_of, spare, nowhere}
use Rattle.sp_parse_tokens.specs.SyntaxTrees.{syntax_trees, c_table}
use Rattle.sp_parse_tokens.specs.Depths.{Part}
use Rattle.sp_parse_tokens.specs.Faults.{Wanted, context_of, sort_there, takes_name, is_type_name}
use Rattle.sp_parse_laws.specs.Spelled.{kinds_at}
use Rattle.sp_parse_laws.proofs.TokenKinds.{at_sort}
use Rattle.sp_parse_laws.specs.Answers.{Language, kinds_of, expressions, type_names, specifier_lists, declarators}
use Rattle.sp_parse_laws.proofs.Lifts.{Reader, the_end, kinds_of_tokens, first_bad}
use Rattle.sp_parse_laws.proofs.Calls.{expression_reader, type_name_reader, specifiers_reader, declarator_reader}
use Rattle.sp_parse_laws.specs.UnitAnswers.{units}
use Rattle.sp_parse_laws.proofs.WholeUnits.{unit_reader}
use Rattle.sp_parse_fault_laws.specs.Told.{CouldBeName, AreTold, TypeNamesAreTold}
use Rattle.sp_parse_fault_laws.proofs.NameNotes.{tells_name, carried_item, Fits}
use Rattle.sp_parse_fault_laws.proofs.PartNames.{PlaceClaim, SwappedAt, part_claim}
use Rattle.sp_parse_fault_laws.proofs.UnitNames.{whole_claim}
use Rattle.sp_parse_fault_laws.proofs.TypeKinds.{by_its_note}

-- the notes of the faults are those of the swapping
noted : (w : Wanted) → tells_name w ≡ takes_name w
noted (wanted grammar.any) = refl
noted (wanted (grammar.ordinary g)) = refl
noted (wanted (grammar.only g grammar.plainly m)) = refl
noted (wanted (grammar.only g grammar.for_name m)) = refl
noted (wanted (grammar.only g grammar.for_parameter m)) = refl
noted (wanted (grammar.only g grammar.for_member m)) = refl
noted (wanted (grammar.only g grammar.for_external m)) = refl
noted (wanted (grammar.only g grammar.for_body m)) = refl
noted (asked (at g (grammar.direct grammar.concrete))) = refl
noted (asked (at g (grammar.direct grammar.abstract))) = refl
noted (asked (at g (grammar.direct grammar.either))) = refl
noted (asked (at g (grammar.group grammar.concrete))) = refl
noted (asked (at g (grammar.group grammar.abstract))) = refl
noted (asked (at g (grammar.group grammar.either))) = refl
noted (asked (at g i)) = refl
noted (asked (unit types)) = refl
noted (asked whole) = refl

type_name : (s : Sort) → is_type_name s ≡ true → (n : ℕ) × (s ≡ tokens.named_type n)
type_name (tokens.named_type n) e = (n, refl)
type_name _ e = absurd cc

-- the name, as a token
abbrev named : ℕ → Token
named m = spare (kinds.Name m)

-- The ask of a text, at a type name and at a name that is none.
abbrev Claims : Ask syntax_trees → Type 0
Claims n = (b x : Terminal) (kind number : ℕ) → is_name b.sort ≡ true → is_name x.sort ≡ true → (front rest : List Terminal) (w : Wanted) → SwappedAt w b x kind number → Fails c_table n (ask n) (front ++ b ∷ rest) w (b ∷ rest) → PlaceClaim n x front w

module _ (L : Language) (types : List ℕ) (n : Ask syntax_trees) (r : Reader L types n) (claims : Claims n) where
  -- a text that was begun is that of a tree
  begun : (front : List Token) (m : ℕ) → Completed c_table n (ask n) (c_tokens front ++ terminal (named m) ∷ []) → CouldBeName L types front m
  begun front m c =
      let us = c_tokens front ++ terminal (named m) ∷ [] in
      let here = at_tokens (sym (append_assoc us c.rest (the_end ∷ []))) (c.reads the_end (λ a. (r.stops, tt)) []) in
      let first : kinds_at us ≡ kinds_of front ++ kinds.Name m ∷ [] = map-append (λ x. x.what.kind) (c_tokens front) (terminal (named m) ∷ []) ∙ ap (λ v. v ++ kinds.Name m ∷ []) (kinds_of_tokens front) in
      record {
        tree = r.tree c.answer nowhere;
        rest = kinds_at c.rest;
        levelled = r.levelled (us ++ c.rest) (the_end ∷ []) c.answer nowhere here;
        spells = r.spells (us ++ c.rest) (the_end ∷ []) c.answer nowhere here ∙ map-append (λ x. x.what.kind) us c.rest ∙ ap (λ v. v ++ kinds_at c.rest) first;
      }

  by_claim : (front : List Token) (want : Wanted) (m : ℕ) → PlaceClaim n (terminal (named m)) (c_tokens front) want → (takes_name want ≡ true) ↔ CouldBeName L types front m
  by_claim front want m claim = (
    λ e. begun front m (claim.goes_on (sym claim.told ∙ noted want ∙ e)),
    λ could. by_goes claim.goes refl could,
  )
    where
      by_goes : (g : Bool) → claim.goes ≡ g → CouldBeName L types front m → takes_name want ≡ true
      by_goes true e could = sym (noted want) ∙ claim.told ∙ e
      by_goes false e could =
          let there : c_tokens front ++ terminal (named m) ∷ [] ≡ c_tokens (front ++ named m ∷ []) = sym (map-append terminal front (named m ∷ [])) in
          absurd ((first_bad L types n r front (named m) [] want (fault_at_tokens there (claim.stays e []))).nothing_goes_on could)

  are_told : AreTold L types n
  are_told front bad more want h is_type m free =
      let t = type_name (sort_there want bad) is_type in
      let kind = at_sort (context_of want).types (terminal bad) (tokens.named_type t.0) t.1 in
      let there : c_tokens (front ++ bad ∷ more) ≡ c_tokens front ++ terminal bad ∷ c_tokens more = map-append terminal front (bad ∷ more) in
      let note = by_its_note want front bad t.0 t.1 in
      let told = by_claim front want m (claims (terminal bad) (terminal (named m)) t.0 m (ap (λ k. is_name (sort_of k)) kind.0) refl (c_tokens front) (c_tokens more) want
      (record { type_b = t.1; name_x = ap (λ b. if b then tokens.named_type m else tokens.name m) free }) (fault_at_tokens there h)) in
      (λ u. told.0 (note.0 u), λ could. note.1 (told.1 could))

part_told : (L : Language) (types : List ℕ) (i : Part) → Reader L types (at (grammar.outside types) i) → Fits i → carried_item i ≡ false → AreTold L types (at (grammar.outside types) i)
part_told L types i r fits plain = are_told L types (at (grammar.outside types) i) r (λ b x kind number name_b name_x front rest w s h. part_claim types i fits plain b x kind number name_b name_x front rest w s h)

pub names_told : TypeNamesAreTold
names_told = record {
  in_units = are_told units [] whole unit_reader (λ b x kind number name_b name_x front rest w s h. whole_claim b x kind number name_b name_x front rest w s h);
  in_expressions = λ types. part_told expressions types (grammar.level 13) (expression_reader types) (omega arith) refl;
  in_type_names = λ types. part_told type_names types grammar.type_name (type_name_reader types) tt refl;
  in_specifiers = λ types. part_told specifier_lists types grammar.optional_specifiers (specifiers_reader types) tt refl;
  in_declarators = λ types. part_told declarators types (grammar.declarator grammar.concrete) (declarator_reader types) tt refl;
}
