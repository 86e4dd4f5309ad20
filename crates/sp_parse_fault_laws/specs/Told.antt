-- Where a text fails at the name of a type, the kind of the fault is said by trees: whether a name could be in its place (C90 6.5.6).
use Rattle.std.specs.Prelude.{◌≡◌, ◌==◌, ◌↔◌, ℕ, true, false, List, [], ◌∷◌, ◌++◌}
use Rattle.std.specs.List.{list_any}
use Rattle.sp_tree.specs.declared.fault.FaultKind.TheVariants.{TypedefAsOrdinaryName}
use Rattle.sp_tree.specs.declared.token.Kind.TheVariants.{Name}
use Rattle.sp_tree.specs.declared.token.Token.{Token}
use Rattle.sp_parse_grammar.specs.Table.{ask, Fails}
use Rattle.sp_parse_grammar.specs.CTable.{Ask, whole}
use Rattle.sp_parse_tokens.specs.Sorts.{c_tokens}
use Rattle.sp_parse_tokens.specs.SyntaxTrees.{syntax_trees, c_table}
use Rattle.sp_parse_tokens.specs.Faults.{Wanted, context_of, sort_there, is_type_name, fault_of}
use Rattle.sp_parse_laws.specs.Answers.{Language, kinds_of, BeginsTree, expressions, type_names, specifier_lists, declarators, expression_ask, type_name_ask, specifiers_ask, declarator_ask}
use Rattle.sp_parse_laws.specs.UnitAnswers.{units}

-- the tokens of some levelled tree begin with these and this name
abbrev pub CouldBeName : Language → List ℕ → List Token → ℕ → Type 0
CouldBeName L types front m = BeginsTree L types (kinds_of front ++ Name m ∷ [])

-- Where the ask fails at a token that is the name of a type there, the fault is TypedefAsOrdinaryName exactly where a name that is none there could be in
-- its place.
abbrev pub AreTold : Language → List ℕ → Ask syntax_trees → Type 0
AreTold L types n = (front : List Token) (bad : Token) (more : List Token) (want : Wanted) → Fails c_table n (ask n) (c_tokens (front ++ bad ∷ more)) want (c_tokens (bad ∷ more)) → is_type_name (sort_there want bad) ≡ true
    → (m : ℕ) → list_any (λ t. t == m) (context_of want).types ≡ false → (fault_of want front bad ≡ TypedefAsOrdinaryName) ↔ CouldBeName L types front m

-- So it is in units, and in the parts that are parsed by themselves.
pub record TypeNamesAreTold : Type 0 where
  pub in_units : AreTold units [] whole
  pub in_expressions : (types : List ℕ) → AreTold expressions types (expression_ask types)
  pub in_type_names : (types : List ℕ) → AreTold type_names types (type_name_ask types)
  pub in_specifiers : (types : List ℕ) → AreTold specifier_lists types (specifiers_ask types)
  pub in_declarators : (types : List ℕ) → AreTold declarators types (declarator_ask types)
