-- A levelled tree is the only levelled one that its tokens spell, so it is read again as itself from each list that it spells.
use Rattle.std.specs.Prelude.{◌≡◌, ℕ, ◌≤◌, List, [], ◌∷◌, ◌++◌, length}
use Rattle.sp_tree.specs.declared.fault.FaultKind.{FaultKind}
use Rattle.sp_tree.specs.declared.token.Kind.TheVariants.{End}
use Rattle.sp_tree.specs.declared.token.Token.{Token}
use Rattle.sp_parse_grammar.specs.CTable.{Ask}
use Rattle.sp_parse_tokens.specs.SyntaxTrees.{syntax_trees}
use Rattle.sp_parse_laws.specs.Bare.{bare, bare_type_name, bare_specifiers, bare_declarator}
use Rattle.sp_parse_laws.specs.Answers.{Language, BeginsTree, IsLongest, IsFault, IsNested, expressions, type_names, specifier_lists, declarators, expression_ask, type_name_ask, specifiers_ask, declarator_ask}

-- The tree is the one answer to these tokens: it is the longest there, no other tree is, and there is neither a fault nor a depth that
-- is passed. So a parser whose answers are these can answer that tree alone, or want of memory.
pub record IsOneAnswer (L : Language) (n : Ask syntax_trees) (types : List ℕ) (depth : ℕ) (tokens : List Token) (tree : L.Tree) : Type 0 where
  pub longest : IsLongest L types depth tokens tree (length (L.kinds tree))
  pub no_other : (other : L.Tree) (count : ℕ) → IsLongest L types depth tokens other count → (other ≡ tree) × (count ≡ length (L.kinds tree))
  pub no_fault : (fault : FaultKind) (count : ℕ) → ¬ IsFault L n types tokens fault count
  pub not_nested : (count : ℕ) → ¬ IsNested L types depth tokens count

-- Each levelled tree is read again as itself: `bare` is the tree without its places, and the ask is that of the trees.
pub record AreReadAgain (L : Language) (bare : L.Tree → L.Tree) (n : Ask syntax_trees) (types : List ℕ) : Type 0 where
  -- without its places a tree spells the same, and two that are then the same and are spelled by the same tokens are the same
  pub kept : (tree : L.Tree) → L.kinds (bare tree) ≡ L.kinds tree
  pub one_placed : (tokens rest : List Token) (a b : L.Tree) → bare a ≡ bare b → L.Spelled tokens a rest → L.Spelled tokens b rest → a ≡ b
  -- two of the same kinds of tokens are the same but for their places
  pub one_shape : (a b : L.Tree) → L.Levelled types a → L.Levelled types b → L.kinds a ≡ L.kinds b → bare a ≡ bare b
  -- two of the same tokens, each place that of its token, are the same
  pub one_tree : (tokens rest : List Token) (a b : L.Tree) → L.Levelled types a → L.Levelled types b → L.Spelled tokens a rest → L.Spelled tokens b rest → a ≡ b
  -- with the end of the text none goes on
  pub ended : (tree : L.Tree) → L.Levelled types tree → ¬ BeginsTree L types (L.kinds tree ++ End ∷ [])
  -- one of a depth that is allowed, spelled by the tokens before one with which none goes on, is the answer to them
  pub again : (depth : ℕ) (tokens : List Token) (tree : L.Tree) (next : Token) (more : List Token) → L.Levelled types tree → L.depth tree ≤ depth → L.Spelled tokens tree (next ∷ more) → ¬ BeginsTree L types (L.kinds tree ++ next.kind ∷ [])
      → IsOneAnswer L n types depth tokens tree

abbrev pub ExpressionsAreReadAgain : List ℕ → Type 0
ExpressionsAreReadAgain types = AreReadAgain expressions bare (expression_ask types) types

abbrev pub TypeNamesAreReadAgain : List ℕ → Type 0
TypeNamesAreReadAgain types = AreReadAgain type_names bare_type_name (type_name_ask types) types

abbrev pub SpecifiersAreReadAgain : List ℕ → Type 0
SpecifiersAreReadAgain types = AreReadAgain specifier_lists bare_specifiers (specifiers_ask types) types

abbrev pub DeclaratorsAreReadAgain : List ℕ → Type 0
DeclaratorsAreReadAgain types = AreReadAgain declarators bare_declarator (declarator_ask types) types
