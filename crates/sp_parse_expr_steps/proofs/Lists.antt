-- How far the readers of lists have come: of specifiers, and of the suffixes of declarators.
use Rattle.std.proofs.Common.{◌≡◌, ℕ, ◌+◌, ◌≤◌, Bool, true, false, List, [], length}
use Rattle.std.specs.Prelude.{◌⊎◌, is_some}
use Rattle.sp_tree.specs.declared.token.Token.{Token}
use Rattle.sp_parse_trees.specs.declared.tree.Specifier.{Specifier as CodeSpecifier}
use Rattle.sp_parse_trees.specs.Syntax.{Declarator}
use Rattle.sp_parse_trees.specs.View.{specifiers_of, declarator_of}
use Rattle.sp_parse_grammar.specs.CTokens as tokens
use Rattle.sp_parse_grammar.specs.CTable as grammar
use Rattle.sp_parse_grammar.specs.CTable.{Context}
use Rattle.sp_parse_tokens.specs.Makers.{SpecifierAt, all_specifiers, place_of_first, first_place, settle}
use Rattle.sp_parse_tokens.specs.SyntaxTrees.{syntax_trees}
use Rattle.sp_parse_tokens.specs.Faults.{is_empty}
use Rattle.sp_parse_tokens.specs.declared.part.Declared.{Declared}
use Rattle.sp_parse_tokens.specs.Codes.{seen_by}
use Rattle.sp_parse_expr_steps.specs.Reading.{IsStep}
use Rattle.sp_parse_expr_steps.specs.Declaring.{declared_seen}

-- These specifiers were read, whose words are these bits. The list has the place of its first token, once there is one.
pub record SpecifiersSoFar (g : Context) (stores : Bool) (text : List Token) (items : List CodeSpecifier) (typedefs : Bool) (seen : ℕ) (rest : List Token) : Type 0 where
  pub all : List SpecifierAt
  pub same : specifiers_of items ≡ all_specifiers all
  pub begun : ((seen ≡ 0) × (all ≡ []) × (items ≡ []) × (rest ≡ text)) ⊎ ((place_of_first all ≡ first_place text) × (1 + length rest ≤ length text) × (is_empty all ≡ false))
  pub step : IsStep g (grammar.specifiers stores tokens.nothing_seen grammar.no_specifiers) (grammar.specifiers stores (seen_by seen) (record { all = all; typedefs = typedefs })) (λ a. a) text rest

-- The head of a declarator and suffixes were read, and make this declarator, which stands before these tokens.
pub record SuffixedSoFar (g : Context) (head : grammar.Declared syntax_trees) (text : List Token) (d : Declared) (rest : List Token) : Type 0 where
  pub pending : Declarator
  pub settled : declarator_of d.tree ≡ settle (first_place rest) pending
  pub named : is_some d.declares ≡ true → pending ≡ declarator_of d.tree
  pub step : IsStep g (grammar.declarator_suffixes head) (grammar.declarator_suffixes (declared_seen d pending)) (λ a. a) text rest
