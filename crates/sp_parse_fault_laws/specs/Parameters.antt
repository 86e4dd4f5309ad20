-- Which kind of missing type it is: OldStyleParameters where a parameter could begin (C90 6.5.4.3), and else ImplicitInt.
use Rattle.std.specs.Prelude.{◌≡◌, ◌↔◌, ◌||◌, ℕ, Bool, true, false, List, [], ◌∷◌, ◌++◌}
use Rattle.sp_tree.specs.declared.fault.FaultKind.TheVariants.{OldStyleParameters}
use Rattle.sp_tree.specs.declared.token.Keyword.TheVariants.{Float}
use Rattle.sp_tree.specs.declared.token.Token.{Token}
use Rattle.sp_parse_grammar.specs.CTokens as tokens
use Rattle.sp_parse_grammar.specs.CTokens.{is_mark, is_name}
use Rattle.sp_parse_grammar.specs.Table.{ask, Fails}
use Rattle.sp_parse_grammar.specs.CTable.{Ask, whole}
use Rattle.sp_parse_tokens.specs.Sorts.{sort_of, c_tokens}
use Rattle.sp_parse_tokens.specs.SyntaxTrees.{syntax_trees, c_table}
use Rattle.sp_parse_tokens.specs.Faults.{Wanted, sort_there, fault_of}
use Rattle.sp_parse_laws.specs.Answers.{Language, expressions, type_names, specifier_lists, declarators, expression_ask, type_name_ask, specifiers_ask, declarator_ask}
use Rattle.sp_parse_laws.specs.UnitAnswers.{units}
use Rattle.sp_parse_fault_laws.specs.Missing.{CouldBeWord}

-- the last of these tokens is `(` or `,`; where there is none, as given
abbrev pub ends_in_list : Bool → List Token → Bool
ends_in_list b [] = b
ends_in_list b (x ∷ xs) = ends_in_list (is_mark tokens.opening (sort_of x.kind) || is_mark tokens.comma (sort_of x.kind)) xs

-- Where the ask fails, the fault is OldStyleParameters exactly where the token is a name that is no type's there, behind `(` or `,`, and the word `float`
-- could be in its place.
abbrev pub AreParametersTold : Language → List ℕ → Ask syntax_trees → Type 0
AreParametersTold L types n = (front : List Token) (bad : Token) (more : List Token) (want : Wanted) → Fails c_table n (ask n) (c_tokens (front ++ bad ∷ more)) want (c_tokens (bad ∷ more))
    → (fault_of want front bad ≡ OldStyleParameters) ↔ ((is_name (sort_there want bad) ≡ true) × (ends_in_list false front ≡ true) × CouldBeWord Float L types front)

-- So it is in units, and in the parts that are parsed by themselves.
pub record ParametersAreTold : Type 0 where
  pub in_units : AreParametersTold units [] whole
  pub in_expressions : (types : List ℕ) → AreParametersTold expressions types (expression_ask types)
  pub in_type_names : (types : List ℕ) → AreParametersTold type_names types (type_name_ask types)
  pub in_specifiers : (types : List ℕ) → AreParametersTold specifier_lists types (specifiers_ask types)
  pub in_declarators : (types : List ℕ) → AreParametersTold declarators types (declarator_ask types)
