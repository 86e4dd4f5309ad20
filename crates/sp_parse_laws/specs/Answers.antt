-- What a parser of C90 answers, said by levelled trees alone (C90 6.3 to 6.7).
use Rattle.std.specs.Prelude.{◌≡◌, ℕ, ◌<◌, ◌≤◌, List, [], ◌∷◌, ◌++◌, length, map, ◌⊎◌, is_some, true}
use Rattle.sp_tree.specs.declared.fault.FaultKind.{FaultKind}
use Rattle.sp_tree.specs.declared.token.Kind.{Kind}
use Rattle.sp_tree.specs.declared.token.Token.{Token}
use Rattle.sp_parse_trees.specs.Syntax.{Expression, TypeName, Specifiers, no_specifiers, Declarator}
use Rattle.sp_parse_trees.specs.Spelling.{tokens_of, type_name_tokens, specifiers_tokens, declarator_tokens}
use Rattle.sp_parse_trees.specs.Places.{SpellsExpression, SpellsTypeName, SpellsSpecifiers, SpellsDeclarator}
use Rattle.sp_parse_trees.specs.Levels.{outside, IsLevelled, IsLevelledTypeName, AreLevelledSpecifiers, is_specifier_list, IsLevelledDeclarator, declared_name}
use Rattle.sp_parse_trees.specs.Depth as deep
use Rattle.sp_parse_grammar.specs.Table.{ask, Fails}
use Rattle.sp_parse_grammar.specs.CTable as grammar
use Rattle.sp_parse_grammar.specs.CTable.{Ask, at}
use Rattle.sp_parse_tokens.specs.Sorts.{c_tokens}
use Rattle.sp_parse_tokens.specs.SyntaxTrees.{syntax_trees, c_table}
use Rattle.sp_parse_tokens.specs.Faults.{Wanted, fault_of}

abbrev pub kinds_of : List Token → List Kind
kinds_of xs = map (λ x. x.kind) xs

-- A kind of trees: what they spell, which are levelled where these are the names of types, how deep they are, and how tokens
-- begin with those of a tree, each place in it the place of its token.
pub record Language : Type 1 where
  pub Tree : Type 0
  pub kinds : Tree → List Kind
  pub Levelled : List ℕ → Tree → Type 0
  pub depth : Tree → ℕ
  pub Spelled : List Token → Tree → List Token → Type 0

abbrev pub expressions : Language
expressions = record { Tree = Expression; kinds = tokens_of; Levelled = λ types e. IsLevelled (outside types) e; depth = deep.depth; Spelled = SpellsExpression }

abbrev pub type_names : Language
type_names = record { Tree = TypeName; kinds = type_name_tokens; Levelled = λ types n. IsLevelledTypeName (outside types) n; depth = deep.type_name_depth; Spelled = SpellsTypeName }

-- Lists of specifiers; the empty list too.
abbrev pub specifier_lists : Language
specifier_lists = record { Tree = Specifiers; kinds = specifiers_tokens; Levelled = λ types ss. (ss ≡ no_specifiers) ⊎ ((is_specifier_list ss ≡ true) × AreLevelledSpecifiers (outside types) ss); depth = deep.specifiers_depth; Spelled = SpellsSpecifiers }

-- Declarators of a name.
abbrev pub declarators : Language
declarators = record { Tree = Declarator; kinds = declarator_tokens; Levelled = λ types d. (is_some (declared_name d) ≡ true) × IsLevelledDeclarator (outside types) d; depth = deep.declarator_depth; Spelled = SpellsDeclarator }

-- ---- what the answers mean

-- The tokens of some levelled tree begin with these.
pub record BeginsTree (L : Language) (types : List ℕ) (front : List Kind) : Type 0 where
  pub tree : L.Tree
  pub rest : List Kind
  pub levelled : L.Levelled types tree
  pub spells : L.kinds tree ≡ front ++ rest

-- These are the tokens of a levelled tree.
pub record IsTree (L : Language) (types : List ℕ) (tokens : List Kind) : Type 0 where
  pub tree : L.Tree
  pub levelled : L.Levelled types tree
  pub spells : L.kinds tree ≡ tokens

-- The failing token behind those before it: some tree goes on up to it, none with it, and none ends before it.
pub record IsFirstBad (L : Language) (types : List ℕ) (front : List Kind) (bad : Kind) : Type 0 where
  pub goes_on : BeginsTree L types front
  pub none_whole : ¬ IsTree L types front
  pub nothing_goes_on : ¬ BeginsTree L types (front ++ bad ∷ [])

-- The tree is levelled, spells that many first tokens and is no deeper than allowed, and with the next token none begins.
pub record IsLongest (L : Language) (types : List ℕ) (depth : ℕ) (tokens : List Token) (tree : L.Tree) (count : ℕ) : Type 0 where
  pub next : Token
  pub more : List Token
  pub spells : L.Spelled tokens tree (next ∷ more)
  pub counted : count ≡ length (L.kinds tree)
  pub levelled : L.Levelled types tree
  pub longest : ¬ BeginsTree L types (L.kinds tree ++ next.kind ∷ [])
  pub shallow : L.depth tree ≤ depth

-- Behind that many tokens stands the failing one, and its fault is that of what the grammar wanted there. (What is wanted at a
-- failing token is determined.)
pub record IsFault (L : Language) (n : Ask syntax_trees) (types : List ℕ) (tokens : List Token) (fault : FaultKind) (count : ℕ) : Type 0 where
  pub front : List Token
  pub bad : Token
  pub more : List Token
  pub whole : tokens ≡ front ++ bad ∷ more
  pub counted : count ≡ length front
  pub failing : IsFirstBad L types (kinds_of front) bad.kind
  pub want : Wanted
  pub fails : Fails c_table n (ask n) (c_tokens tokens) want (c_tokens (bad ∷ more))
  pub kind : fault ≡ fault_of want front bad

-- Behind that many tokens stands one up to which some tree goes on, itself included, and each that does is too deep.
pub record IsNested (L : Language) (types : List ℕ) (depth : ℕ) (tokens : List Token) (count : ℕ) : Type 0 where
  pub front : List Token
  pub bad : Token
  pub more : List Token
  pub whole : tokens ≡ front ++ bad ∷ more
  pub counted : count ≡ length front
  pub goes_on : BeginsTree L types (kinds_of front ++ bad.kind ∷ [])
  pub deeper : (tree : L.Tree) (rest : List Kind) → L.Levelled types tree → L.kinds tree ≡ (kinds_of front ++ bad.kind ∷ []) ++ rest → depth < L.depth tree

-- ---- what each call asks for

abbrev pub expression_ask : List ℕ → Ask syntax_trees
expression_ask types = at (grammar.outside types) (grammar.level 13)

abbrev pub type_name_ask : List ℕ → Ask syntax_trees
type_name_ask types = at (grammar.outside types) grammar.type_name

abbrev pub specifiers_ask : List ℕ → Ask syntax_trees
specifiers_ask types = at (grammar.outside types) grammar.optional_specifiers

abbrev pub declarator_ask : List ℕ → Ask syntax_trees
declarator_ask types = at (grammar.outside types) (grammar.declarator grammar.concrete)
