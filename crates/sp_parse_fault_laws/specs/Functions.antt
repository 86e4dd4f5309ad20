-- Where a text fails at the word `typedef`, the kind of the fault is said by trees: whether it stands in a function (C90 6.7.1).
use Rattle.std.specs.Prelude.{◌≡◌, ◌↔◌, ℕ, List, [], ◌∷◌, ◌++◌}
use Rattle.sp_tree.specs.declared.fault.FaultKind.TheVariants.{TypedefAsOrdinaryName}
use Rattle.sp_tree.specs.declared.token.Kind.{Kind}
use Rattle.sp_tree.specs.declared.token.Kind.TheVariants.{Word, Mark}
use Rattle.sp_tree.specs.declared.token.Keyword.TheVariants.{Typedef}
use Rattle.sp_tree.specs.declared.token.Punct.TheVariants.{LeftBrace}
use Rattle.sp_tree.specs.declared.token.Token.{Token}
use Rattle.sp_parse_trees.specs.Syntax.{Specifiers, Declarator, Statement, External, definition}
use Rattle.sp_parse_trees.specs.Spelling.{specifiers_tokens, declarator_tokens, statement_tokens, unit_tokens}
use Rattle.sp_parse_trees.specs.Levels.{AreLevelledExternals}
use Rattle.sp_parse_grammar.specs.Table.{ask, Fails}
use Rattle.sp_parse_grammar.specs.CTable.{Ask, whole}
use Rattle.sp_parse_tokens.specs.Sorts.{c_tokens}
use Rattle.sp_parse_tokens.specs.SyntaxTrees.{syntax_trees, c_table}
use Rattle.sp_parse_tokens.specs.Faults.{Wanted, fault_of}
use Rattle.sp_parse_laws.specs.Answers.{kinds_of, expression_ask, type_name_ask, specifiers_ask, declarator_ask}

-- These tokens end in the body of a function: they are the first of a levelled unit that ends with it. They have the `{` of its body, and
-- at least the last token of that is missing.
pub record EndsInBody (types : List ℕ) (front : List Kind) : Type 0 where
  pub before : List External
  pub specifiers : Specifiers
  pub declarator : Declarator
  pub body : Statement
  pub inner : List Kind
  pub next : Kind
  pub rest : List Kind
  pub levelled : AreLevelledExternals types (before ++ definition specifiers declarator body ∷ [])
  pub tokens : front ≡ unit_tokens before ++ (specifiers_tokens specifiers ++ (declarator_tokens declarator ++ Mark LeftBrace ∷ inner))
  pub ends : statement_tokens body ≡ (Mark LeftBrace ∷ inner) ++ next ∷ rest

-- Where the ask fails at the word `typedef`, the fault is TypedefAsOrdinaryName exactly where the tokens before it end in such a place.
abbrev pub AreTypedefsTold : (List Kind → Type 0) → Ask syntax_trees → Type 0
AreTypedefsTold Inside n = (front : List Token) (bad : Token) (more : List Token) (want : Wanted) → Fails c_table n (ask n) (c_tokens (front ++ bad ∷ more)) want (c_tokens (bad ∷ more)) → bad.kind ≡ Word Typedef
    → (fault_of want front bad ≡ TypedefAsOrdinaryName) ↔ Inside (kinds_of front)

-- In a unit it is TypedefAsOrdinaryName in the body of a function alone; in a part that is parsed by itself it is never TypedefAsOrdinaryName.
pub record TypedefsAreTold : Type 0 where
  pub in_units : AreTypedefsTold (λ front. EndsInBody [] front) whole
  pub in_expressions : (types : List ℕ) → AreTypedefsTold (λ front. ⊥) (expression_ask types)
  pub in_type_names : (types : List ℕ) → AreTypedefsTold (λ front. ⊥) (type_name_ask types)
  pub in_specifiers : (types : List ℕ) → AreTypedefsTold (λ front. ⊥) (specifiers_ask types)
  pub in_declarators : (types : List ℕ) → AreTypedefsTold (λ front. ⊥) (declarator_ask types)
