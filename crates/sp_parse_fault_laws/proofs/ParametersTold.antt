-- The kind of a fault at a name is OldStyleParameters exactly where a parameter could begin.
use Rattle.std.proofs.Common.{◌≡◌, inl, inr, ℕ, Bool, true, false, List, [], ◌∷◌, ◌++◌, refl, sym, ap, ◌∙◌}
use Rattle.std.specs.Prelude.{◌&&◌, ◌||◌, if◌then◌else◌}
use Rattle.std.proofs.lemmas.List.{append_cancel_right, map-append}
use Rattle.sp_tree.specs.declared.fault.FaultKind.{FaultKind}
use Rattle.sp_tree.specs.declared.fault.FaultKind.TheVariants.{UnexpectedToken, OldStyleParameters, ImplicitInt, VariadicDefinition, BitField, GnuWord, TypedefAsOrdinaryName, LongLong}
use Rattle.sp_tree.specs.declared.token.Token.{Token}
use Rattle.sp_parse_grammar.specs.CTokens as tokens
use Rattle.sp_parse_grammar.specs.CTokens.{Sort, is_name, view as viewed}
use Rattle.sp_parse_grammar.specs.CTable as grammar
use Rattle.sp_parse_grammar.specs.CTable.{Ask, at, unit, whole}
use Rattle.sp_parse_grammar.specs.Table.{ask, wanted, asked, Fails}
use Rattle.sp_parse_grammar.proofs.Readings.{fault_front, fault_spelled, fault_at_tokens}
use Rattle.sp_parse_tokens.specs.Sorts.{Terminal, terminal, sort_of, c_tokens}
use Rattle.sp_parse_tokens.specs.SyntaxTrees.{syntax_trees, c_table}
use Rattle.sp_parse_tokens.specs.Faults.{Wanted, sort_there, begins_parameter, wants_type, begins_declarator, fault_of}
use Rattle.sp_parse_laws.specs.Answers.{Language, expressions, type_names, specifier_lists, declarators, expression_ask, type_name_ask, specifiers_ask, declarator_ask}
use Rattle.sp_parse_laws.specs.UnitAnswers.{units}
use Rattle.sp_tree.specs.declared.token.Keyword.TheVariants.{Float}
use Rattle.sp_parse_fault_laws.specs.Missing.{CouldBeWord, AreTypesTold}
use Rattle.sp_parse_fault_laws.specs.Parameters.{ends_in_list, AreParametersTold, ParametersAreTold}
use Rattle.sp_parse_fault_laws.proofs.TypeNotes.{named as name_there, tells_type}
use Rattle.sp_parse_fault_laws.proofs.MissingKinds.{by_its_notes}
use Rattle.sp_parse_fault_laws.proofs.MissingTold.{types_told}
use Rattle.sp_parse_fault_laws.proofs.Walks.{opens_list, last, named, Start, fails}
use Rattle.sp_parse_fault_laws.proofs.WalkProductions.{each}

-- no kind behind the first is OldStyleParameters
no_parameter : (b c d e f g : Bool) → (if b then ImplicitInt else if c then VariadicDefinition else if d then BitField else if e then GnuWord else if f then TypedefAsOrdinaryName else if g then LongLong else UnexpectedToken) ≡ OldStyleParameters → ⊥
no_parameter true c d e f g h = cc
no_parameter false true d e f g h = cc
no_parameter false false true e f g h = cc
no_parameter false false false true f g h = cc
no_parameter false false false false true g h = cc
no_parameter false false false false false true h = cc
no_parameter false false false false false false h = cc

is_parameter : (a b c d e f g : Bool) → (if a then OldStyleParameters else if b then ImplicitInt else if c then VariadicDefinition else if d then BitField else if e then GnuWord else if f then TypedefAsOrdinaryName else if g then LongLong else UnexpectedToken) ≡ OldStyleParameters → a ≡ true
is_parameter true b c d e f g h = refl
is_parameter false b c d e f g h = absurd (no_parameter b c d e f g h)

both : (a b : Bool) → a && b ≡ true → (a ≡ true) × (b ≡ true)
both true true e = (refl, refl)
both true false e = absurd cc
both false b e = absurd cc

-- a type is wanted where a parameter could begin
parameter_typed : (w : Wanted) → begins_parameter w ≡ true → tells_type w ≡ true
parameter_typed (wanted (grammar.only g grammar.for_parameter m)) e = refl
parameter_typed (wanted c) e = absurd (let f = e in cc)
parameter_typed (asked (at g (grammar.specifiers true seen sp))) e = refl
parameter_typed (asked (at g (grammar.group grammar.abstract))) e = refl
parameter_typed (asked n) e = absurd (let f = e in cc)

type_noted : (w : Wanted) → begins_parameter w && true || wants_type w ≡ true → tells_type w ≡ true
type_noted (wanted (grammar.only g grammar.for_parameter m)) e = refl
type_noted (wanted (grammar.only g grammar.for_member m)) e = refl
type_noted (wanted (grammar.only g grammar.for_external m)) e = refl
type_noted (asked (at g (grammar.specifiers true seen sp))) e = refl
type_noted (asked (at g (grammar.specifiers false seen sp))) e = refl
type_noted (asked (at g (grammar.group grammar.abstract))) e = refl
type_noted (wanted c) e = absurd (let f = e in cc)
type_noted (asked n) e = absurd (let f = e in cc)

of_first : (a : Bool) (k : FaultKind) → a ≡ true → (if a then OldStyleParameters else k) ≡ OldStyleParameters
of_first true k e = refl
of_first false k e = absurd cc

u4_there : (w : Wanted) (front : List Token) (x : Token) → begins_parameter w ≡ true → is_name (sort_there w x) ≡ true → fault_of w front x ≡ OldStyleParameters
u4_there w front x e f = of_first (begins_parameter w && is_name (sort_there w x)) _ (ap (λ b. b && is_name (sort_there w x)) e ∙ f)

begins : (s : Sort) → is_name s ≡ true → begins_declarator s ≡ true
begins (tokens.name n) e = refl
begins _ e = absurd cc

last_in_list : (b : Bool) (front : List Token) → last b (c_tokens front) ≡ ends_in_list b front
last_in_list b [] = refl
last_in_list b (x ∷ xs) = last_in_list (opens_list (sort_of x.kind)) xs

module _ (L : Language) (types : List ℕ) (n : Ask syntax_trees) (start : (xs : List Terminal) → Start n false xs) (typed : AreTypesTold Float L types n) where
  -- behind `(` or `,` alone
  behind : (front : List Token) (bad : Token) (more : List Token) (want : Wanted) → Fails c_table n (ask n) (c_tokens (front ++ bad ∷ more)) want (c_tokens (bad ∷ more)) → is_name (sort_there want bad) ≡ true → tells_type want ≡ true → begins_parameter want ≡ ends_in_list false front
  behind front bad more want h is_bad told =
      let there : c_tokens (front ++ bad ∷ more) ≡ c_tokens front ++ terminal bad ∷ c_tokens more = map-append terminal front (bad ∷ more) in
      let moved = fault_at_tokens there h in
      let order : fault_front moved ≡ c_tokens front = append_cancel_right (fault_front moved) (c_tokens front) (terminal bad ∷ c_tokens more) (sym (fault_spelled moved)) in
      fails each moved false ((λ p. (refl, p)), start _, λ a r ys e. e) (terminal bad) refl is_bad told ∙ ap (last false) order ∙ last_in_list false front

  are_told : AreParametersTold L types n
  are_told front bad more want h = (to, from)
    where
      to : fault_of want front bad ≡ OldStyleParameters → (is_name (sort_there want bad) ≡ true) × (ends_in_list false front ≡ true) × CouldBeWord Float L types front
      to e =
          let t = both (begins_parameter want) (is_name (sort_there want bad)) (is_parameter _ _ _ _ _ _ _ e) in
          (t.1, sym (behind front bad more want h t.1 (parameter_typed want t.0)) ∙ t.0, (typed front bad more want h (begins (sort_there want bad) t.1)).0 (inl e))

      from : (is_name (sort_there want bad) ≡ true) × (ends_in_list false front ≡ true) × CouldBeWord Float L types front → fault_of want front bad ≡ OldStyleParameters
      from s =
          let t = named (sort_there want bad) s.0 in
          let missing = (typed front bad more want h (begins (sort_there want bad) s.0)).1 s.2 in
          let note = (by_its_notes want front bad (name_there t.0) t.1).0 missing in
          u4_there want front bad (behind front bad more want h s.0 (type_noted want note) ∙ s.1) s.0

pub parameters_told : ParametersAreTold
parameters_told = record {
  in_units = are_told units [] whole (λ xs. refl) types_told.in_units;
  in_expressions = λ types. are_told expressions types (expression_ask types) (λ xs. tt) (types_told.in_expressions types);
  in_type_names = λ types. are_told type_names types (type_name_ask types) (λ xs. inr refl) (types_told.in_type_names types);
  in_specifiers = λ types. are_told specifier_lists types (specifiers_ask types) (λ xs. tt) (types_told.in_specifiers types);
  in_declarators = λ types. are_told declarators types (declarator_ask types) (λ xs. tt) (types_told.in_declarators types);
}
