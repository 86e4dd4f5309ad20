-- Where a text fails at a token that begins a declarator, the kind of the fault is said by trees: whether a type could be in its place (C90 6.5, 6.5.4.3).
use Rattle.std.specs.Prelude.{◌≡◌, ◌↔◌, ◌⊎◌, ℕ, true, List, [], ◌∷◌, ◌++◌}
use Rattle.sp_tree.specs.declared.fault.FaultKind.TheVariants.{OldStyleParameters, ImplicitInt}
use Rattle.sp_tree.specs.declared.token.Kind.TheVariants.{Word}
use Rattle.sp_tree.specs.declared.token.Keyword.{Keyword}
use Rattle.sp_tree.specs.declared.token.Keyword.TheVariants.{Float}
use Rattle.sp_tree.specs.declared.token.Token.{Token}
use Rattle.sp_parse_grammar.specs.Table.{ask, Fails}
use Rattle.sp_parse_grammar.specs.CTable.{Ask, whole}
use Rattle.sp_parse_tokens.specs.Sorts.{c_tokens}
use Rattle.sp_parse_tokens.specs.SyntaxTrees.{syntax_trees, c_table}
use Rattle.sp_parse_tokens.specs.Faults.{Wanted, sort_there, begins_declarator, fault_of}
use Rattle.sp_parse_laws.specs.Answers.{Language, kinds_of, BeginsTree, expressions, type_names, specifier_lists, declarators, expression_ask, type_name_ask, specifiers_ask, declarator_ask}
use Rattle.sp_parse_laws.specs.UnitAnswers.{units}

-- the tokens of some levelled tree begin with these and this word
abbrev pub CouldBeWord : Keyword → Language → List ℕ → List Token → Type 0
CouldBeWord k L types front = BeginsTree L types (kinds_of front ++ Word k ∷ [])

-- Where the ask fails at a token that begins a declarator there, the fault is OldStyleParameters or ImplicitInt exactly where this word of a type could be in its
-- place.
abbrev pub AreTypesTold : Keyword → Language → List ℕ → Ask syntax_trees → Type 0
AreTypesTold k L types n = (front : List Token) (bad : Token) (more : List Token) (want : Wanted) → Fails c_table n (ask n) (c_tokens (front ++ bad ∷ more)) want (c_tokens (bad ∷ more)) → begins_declarator (sort_there want bad) ≡ true
    → ((fault_of want front bad ≡ OldStyleParameters) ⊎ (fault_of want front bad ≡ ImplicitInt)) ↔ CouldBeWord k L types front

-- So it is in units, and in the parts that are parsed by themselves, by the word `float`, which stands beside no other word of a type.
pub record MissingTypesAreTold : Type 0 where
  pub in_units : AreTypesTold Float units [] whole
  pub in_expressions : (types : List ℕ) → AreTypesTold Float expressions types (expression_ask types)
  pub in_type_names : (types : List ℕ) → AreTypesTold Float type_names types (type_name_ask types)
  pub in_specifiers : (types : List ℕ) → AreTypesTold Float specifier_lists types (specifiers_ask types)
  pub in_declarators : (types : List ℕ) → AreTypesTold Float declarators types (declarator_ask types)
