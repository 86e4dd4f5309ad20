-- How far a declaration of members has come.
use Rattle.std.specs.Prelude.{◌≡◌, ℕ, ◌≤◌, Bool, true, false, List, [], ◌∷◌, ◌++◌, map, length}
use Rattle.sp_tree.specs.declared.token.Token.{Token}
use Rattle.sp_parse_trees.specs.Syntax.{init_declarator, no_init}
use Rattle.sp_parse_trees.specs.View.{declarator_of}
use Rattle.sp_parse_trees.specs.Depth.{items_depth}
use Rattle.sp_parse_trees.specs.declared.tree.InitDeclarator.{InitDeclarator as CodeItem}
use Rattle.sp_parse_grammar.specs.CTokens as tokens
use Rattle.sp_parse_grammar.specs.CTable as grammar
use Rattle.sp_parse_grammar.specs.CTable.{Context}
use Rattle.sp_parse_tokens.specs.Makers.{all_items}
use Rattle.sp_parse_tokens.specs.Ended.{IsEnded}
use Rattle.sp_parse_tokens.specs.Scopes.{allowed_seen}
use Rattle.sp_parse_tokens.specs.declared.part.Declared.{Declared}
use Rattle.sp_parse_tokens.specs.declared.part.SpecifierList.{SpecifierList}
use Rattle.sp_parse_tokens.specs.declared.part.ReadError.{ReadError}
use Rattle.sp_parse_tokens.specs.declared.scope.AlsoAllowed.{AlsoAllowed}
use Rattle.sp_parse_expr_steps.specs.Reading.{IsRead, IsStop}
use Rattle.sp_parse_expr_steps.specs.Declaring.{AreSpecified, ItemsSoFar, declared_seen, item_seen}
use Rattle.sp_parse_expr_lists.specs.Heads.{Lacks}

-- The specifiers of a member and these declarators are read.
pub record ItemsAreBehind (g : Context) (depth : ℕ) (text : List Token) (ss : SpecifierList) (m : ℕ) (mid : List Token) (items : List CodeItem) (behind : AlsoAllowed) (rest : List Token) : Type 0 where
  pub specified : AreSpecified g false depth text ss m mid
  pub first : Declared
  pub first_depth : ℕ
  pub far : List Token
  pub one : IsRead g (grammar.declarator grammar.concrete) depth mid (declared_seen first (declarator_of first.tree)) first_depth far
  pub so_far : ItemsSoFar g first far items behind rest
  pub fewer : length rest ≤ length far

-- Another declarator is left behind these.
pub record IsBeforeItem (g : Context) (depth : ℕ) (text : List Token) (ss : SpecifierList) (m : ℕ) (mid : List Token) (items : List CodeItem) (rest : List Token) : Type 0 where
  pub takes : (d : Declared) (n : ℕ) (later : List Token) → IsRead g (grammar.declarator grammar.concrete) depth rest (declared_seen d (declarator_of d.tree)) n later → (now : List CodeItem) (i : CodeItem) (back : AlsoAllowed) → now ≡ items ++ i ∷ [] → item_seen i ≡ init_declarator (declarator_of d.tree) no_init → allowed_seen back ≡ grammar.closed (allowed_seen d.behind) → ItemsAreBehind g depth text ss m mid now back later
  pub stops : (s : ReadError) → IsStop g (grammar.declarator grammar.concrete) depth rest s → IsStop g grammar.member depth text s

-- These declarators are read. The flag says whether a declarator is left: if not, no comma stands
-- behind them.
abbrev pub ItemsGoOn : Context → ℕ → List Token → SpecifierList → ℕ → List Token → Bool → List CodeItem → AlsoAllowed → List Token → Type 0
ItemsGoOn g depth text ss m mid true items behind rest = IsBeforeItem g depth text ss m mid items rest
ItemsGoOn g depth text ss m mid false items behind rest = ItemsAreBehind g depth text ss m mid items behind rest × Lacks g.types tokens.comma rest

-- The specifiers of a member and these declarators are read. The flag says whether another is left.
pub record HasItems (g : Context) (depth : ℕ) (text : List Token) (ss : SpecifierList) (m : ℕ) (mid : List Token) (more : Bool) (items : List CodeItem) (behind : AlsoAllowed) (reached : ℕ) (rest : List Token) : Type 0 where
  pub goes_on : ItemsGoOn g depth text ss m mid more items behind rest
  pub deep : reached ≡ items_depth (all_items (map item_seen items))
  pub shallow : reached ≤ depth
  pub ended : IsEnded rest
  pub fewer : length rest ≤ length text
