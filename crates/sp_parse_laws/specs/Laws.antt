-- What the parsers rest on, for each kind of trees: what its ask reads, where it fails, and where it is too deep.
use Rattle.std.specs.Prelude.{ℕ, ◌≤◌, List, ◌∷◌, ◌++◌, length}
use Rattle.sp_tree.specs.declared.fault.Place.{Place}
use Rattle.sp_tree.specs.declared.token.Token.{Token}
use Rattle.sp_parse_grammar.specs.Table.{ask, Reads, Fails}
use Rattle.sp_parse_grammar.specs.Depth.{Nests}
use Rattle.sp_parse_grammar.specs.CTable.{Ask, Answer}
use Rattle.sp_parse_trees.specs.Syntax.{Expression, TypeName, Specifiers, Declarator}
use Rattle.sp_parse_tokens.specs.Sorts.{c_tokens}
use Rattle.sp_parse_tokens.specs.Makers.{settle_type, all_specifiers}
use Rattle.sp_parse_tokens.specs.SyntaxTrees.{syntax_trees, c_table}
use Rattle.sp_parse_tokens.specs.Depths.{c_depths}
use Rattle.sp_parse_tokens.specs.Faults.{Wanted, fault_of}
use Rattle.sp_parse_laws.specs.Answers.{Language, IsLongest, IsFault, IsNested, expressions, type_names, specifier_lists, declarators, expression_ask, type_name_ask, specifiers_ask, declarator_ask}

-- An ask reads the levelled trees of a language: the tree of each answer, before the token at a place, is the longest there; where the ask
-- fails stands the failing token, with its fault; and where it nests the depth is passed.
pub record AreParsed (L : Language) (types : List ℕ) (n : Ask syntax_trees) (tree : Answer n → Place → L.Tree) : Type 0 where
  pub longest : (depth : ℕ) (front : List Token) (next : Token) (more : List Token) (a : Answer n)
      → Reads c_table n (ask n) (c_tokens (front ++ next ∷ more)) a (c_tokens (next ∷ more)) → L.depth (tree a next.place) ≤ depth
      → IsLongest L types depth (front ++ next ∷ more) (tree a next.place) (length front)
  pub fault : (front : List Token) (bad : Token) (more : List Token) (want : Wanted)
      → Fails c_table n (ask n) (c_tokens (front ++ bad ∷ more)) want (c_tokens (bad ∷ more))
      → IsFault L n types (front ++ bad ∷ more) (fault_of want front bad) (length front)
  pub nested : (depth : ℕ) (front : List Token) (bad : Token) (more : List Token)
      → Nests c_table c_depths n depth (c_tokens (front ++ bad ∷ more)) (c_tokens (bad ∷ more))
      → IsNested L types depth (front ++ bad ∷ more) (length front)

-- the trees of the answers
abbrev pub expression_tree : (types : List ℕ) → Answer (expression_ask types) → Place → Expression
expression_tree types a p = a.tree

abbrev pub type_name_tree : (types : List ℕ) → Answer (type_name_ask types) → Place → TypeName
type_name_tree types a p = settle_type p a.tree

abbrev pub specifiers_tree : (types : List ℕ) → Answer (specifiers_ask types) → Place → Specifiers
specifiers_tree types a p = all_specifiers a.all

abbrev pub declarator_tree : (types : List ℕ) → Answer (declarator_ask types) → Place → Declarator
declarator_tree types a p = a.tree

abbrev pub ExpressionsAreParsed : List ℕ → Type 0
ExpressionsAreParsed types = AreParsed expressions types (expression_ask types) (expression_tree types)

abbrev pub TypeNamesAreParsed : List ℕ → Type 0
TypeNamesAreParsed types = AreParsed type_names types (type_name_ask types) (type_name_tree types)

abbrev pub SpecifiersAreParsed : List ℕ → Type 0
SpecifiersAreParsed types = AreParsed specifier_lists types (specifiers_ask types) (specifiers_tree types)

abbrev pub DeclaratorsAreParsed : List ℕ → Type 0
DeclaratorsAreParsed types = AreParsed declarators types (declarator_ask types) (declarator_tree types)
