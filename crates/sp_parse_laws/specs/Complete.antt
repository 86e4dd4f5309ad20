-- Each levelled initialiser, declaration, statement, external declaration and unit is read from its tokens, before a token at which it
-- may end, as itself but for its places (C90 6.5, 6.5.7, 6.6, 6.7).
use Rattle.std.specs.Prelude.{◌≡◌, ℕ, ◌<◌, true, false, List, ◌∷◌, ◌++◌}
use Rattle.sp_parse_trees.specs.Syntax.{Init, Declaration, Statement, External}
use Rattle.sp_parse_trees.specs.Spelling.{init_tokens, declaration_tokens, statement_tokens, external_tokens, unit_tokens}
use Rattle.sp_parse_trees.specs.Levels.{Scope, ends_open, new_types, IsLevelledInit, IsLevelledDeclaration, IsLevelledStatement, IsLevelledExternal, AreLevelledExternals}
use Rattle.sp_parse_grammar.specs.CTokens as tokens
use Rattle.sp_parse_grammar.specs.CTokens.{view, is_mark, looseness}
use Rattle.sp_parse_grammar.specs.CTable as grammar
use Rattle.sp_parse_grammar.specs.CTable.{Context, Ask, Answer, at, unit, outside}
use Rattle.sp_parse_grammar.specs.Table.{ask, Reads}
use Rattle.sp_parse_tokens.specs.Sorts.{Terminal}
use Rattle.sp_parse_tokens.specs.SyntaxTrees.{syntax_trees, c_table}
use Rattle.sp_parse_laws.specs.Spelled.{kinds_at}
use Rattle.sp_parse_laws.specs.Bare.{bare_init, bare_declaration}
use Rattle.sp_parse_laws.specs.BareUnits.{bare_statement, bare_external, bare_unit}

-- The ask is read from these tokens, up to the token z, with an answer of which this holds.
pub record IsReadBefore (n : Ask syntax_trees) (ws : List Terminal) (z : Terminal) (zs : List Terminal) (Holds : Answer n → Type 0) : Type 0 where
  pub answer : Answer n
  pub read : Reads c_table n (ask n) (ws ++ z ∷ zs) answer (z ∷ zs)
  pub holds : Holds answer

abbrev pub scope_there : Context → Scope
scope_there g = record { types = g.types; inside = g.inside }

-- before a token that goes on with no assignment expression
abbrev pub InitsAreRead : Type 0
InitsAreRead = (g : Context) (i : Init) → IsLevelledInit (scope_there g) i → (ws : List Terminal) (z : Terminal) (zs : List Terminal) → kinds_at ws ≡ init_tokens i → 12 < looseness (view g.types z.sort) → IsReadBefore (at g grammar.init) ws z zs (λ a. bare_init a ≡ bare_init i)

abbrev pub DeclarationsAreRead : Type 0
DeclarationsAreRead = (g : Context) (d : Declaration) → IsLevelledDeclaration (scope_there g) d → (ws : List Terminal) (z : Terminal) (zs : List Terminal) → kinds_at ws ≡ declaration_tokens d → IsReadBefore (at g grammar.declaration) ws z zs (λ a. bare_declaration a ≡ bare_declaration d)

-- one that ends open isn't read before an `else`: that would be its own
abbrev pub StatementsAreRead : Type 0
StatementsAreRead = (g : Context) (s : Statement) → IsLevelledStatement (scope_there g) s → (ws : List Terminal) (z : Terminal) (zs : List Terminal) → kinds_at ws ≡ statement_tokens s → (is_mark tokens.else_word (view g.types z.sort) ≡ true → ends_open s ≡ false)
    → IsReadBefore (at g grammar.statement) ws z zs (λ a. bare_statement a ≡ bare_statement s)

-- with the names that it makes names of types
abbrev pub ExternalsAreRead : Type 0
ExternalsAreRead = (types : List ℕ) (e : External) → IsLevelledExternal types e → (ws : List Terminal) (z : Terminal) (zs : List Terminal) → kinds_at ws ≡ external_tokens e → IsReadBefore (at (outside types) grammar.external) ws z zs (λ a. (bare_external a.tree ≡ bare_external e) × (a.types ≡ new_types e))

-- before the end of the text
abbrev pub UnitsAreRead : Type 0
UnitsAreRead = (types : List ℕ) (es : List External) → AreLevelledExternals types es → (ws : List Terminal) (z : Terminal) (zs : List Terminal) → kinds_at ws ≡ unit_tokens es → z.sort ≡ tokens.mark tokens.end → IsReadBefore (unit types) ws z zs (λ a. bare_unit a ≡ bare_unit es)
