-- What is read spells its tokens, and each place in it is that of its token.
use Rattle.std.specs.Prelude.{◌≡◌, ℕ, List, [], ◌∷◌, ◌++◌, map, ⊤}
use Rattle.sp_tree.specs.declared.fault.Place.{Place}
use Rattle.sp_tree.specs.declared.token.Kind.{Kind}
use Rattle.sp_parse_trees.specs.Spelling.{tokens_of, init_tokens, declaration_tokens}
use Rattle.sp_parse_trees.specs.Places.{Placed, PlacedInit, PlacedDeclaration, behind}
use Rattle.sp_parse_grammar.specs.Table.{ask, Reads}
use Rattle.sp_parse_grammar.specs.CTable as grammar
use Rattle.sp_parse_grammar.specs.CTable.{Context, Item, ItemAnswer, at}
use Rattle.sp_parse_tokens.specs.Sorts.{Terminal}
use Rattle.sp_parse_tokens.specs.SyntaxTrees.{syntax_trees, c_table}
use Rattle.sp_parse_tokens.specs.Makers as make

abbrev pub kinds_at : List Terminal → List Kind
kinds_at ws = map (λ x. x.what.kind) ws

-- the places from here on are those of the tokens
abbrev pub Agrees : (ℕ → Place) → List Terminal → Type 0
Agrees here [] = ⊤
Agrees here (x ∷ xs) = (x.what.place ≡ here 0) × Agrees (behind 1 here) xs

-- the tree spells the tokens, and each place in it is that of its token
pub record Spelled {T : Type 0} (kinds_in : T → List Kind) (PlacedIn : (ℕ → Place) → T → Type 0)
    (ws : List Terminal) (t : T) : Type 0 where
  pub spells : kinds_in t ≡ kinds_at ws
  pub places : (here : ℕ → Place) → Agrees here ws → PlacedIn here t

-- Each answer to the ask has this property with the tokens that were read for it.
abbrev pub EachAnswer : (i : Item syntax_trees) → (List Terminal → ItemAnswer i → Type 0) → Type 0
EachAnswer i P = (g : Context) (front rest : List Terminal) (a : ItemAnswer i)
    → Reads c_table (at g i) (ask (at g i)) (front ++ rest) a rest → P front a

abbrev pub ExpressionsAreSpelled : Type 0
ExpressionsAreSpelled = EachAnswer (grammar.level 13) (λ ws o. Spelled tokens_of Placed ws o.tree)

abbrev pub InitialisersAreSpelled : Type 0
InitialisersAreSpelled = EachAnswer grammar.init (λ ws i. Spelled init_tokens PlacedInit ws i)

abbrev pub DeclarationsAreSpelled : Type 0
DeclarationsAreSpelled = EachAnswer grammar.declaration
    (λ ws d. Spelled declaration_tokens PlacedDeclaration ws d)

-- A declarator of a name holds no absent one at its core, so it has its place at once.
abbrev pub DeclaratorsAreSettled : Type 0
DeclaratorsAreSettled = EachAnswer (grammar.declarator grammar.concrete)
    (λ ws d. (p : Place) → make.settle p d.tree ≡ d.tree)
