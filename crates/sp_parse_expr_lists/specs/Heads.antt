-- What is behind the first token of a specifier: a tag, a `{`, both, or neither.
use Rattle.std.specs.Prelude.{◌≡◌, ℕ, ◌+◌, ◌≤◌, Bool, true, false, List, ◌∷◌, length, Option, None, Some}
use Rattle.sp_tree.specs.declared.token.Kind.TheVariants as kinds
use Rattle.sp_tree.specs.declared.token.Token.{Token}
use Rattle.sp_parse_grammar.specs.CTokens as tokens
use Rattle.sp_parse_grammar.specs.CTokens.{Mark, Sort, is_mark, view}
use Rattle.sp_parse_grammar.specs.CTable.{Context}
use Rattle.sp_parse_tokens.specs.Sorts.{sort_of}
use Rattle.sp_parse_tokens.specs.Ended.{IsEnded}
use Rattle.sp_parse_expr_lists.specs.declared.heads.Body.{Body}
use Rattle.sp_parse_expr_lists.specs.declared.heads.Body.TheVariants as bodies

-- The mark stands first, and these tokens behind it, where these are the type names.
pub record Begins (types : List ℕ) (m : Mark) (text rest : List Token) : Type 0 where
  pub first : Token
  pub whole : text ≡ first ∷ rest
  pub stands : is_mark m (view types (sort_of first.kind)) ≡ true

-- Another token stands first.
pub record Lacks (types : List ℕ) (m : Mark) (text : List Token) : Type 0 where
  pub first : Token
  pub behind : List Token
  pub whole : text ≡ first ∷ behind
  pub missing : is_mark m (view types (sort_of first.kind)) ≡ false

-- The tag stands first, and these tokens behind it.
pub record IsTag (tag : ℕ) (text rest : List Token) : Type 0 where
  pub first : Token
  pub whole : text ≡ first ∷ rest
  pub is : kinds.Name tag ≡ first.kind

-- The tag and a `{` stand first.
pub record OpensBehindTag (types : List ℕ) (tag : ℕ) (text inside : List Token) : Type 0 where
  pub behind : List Token
  pub tagged : IsTag tag text behind
  pub opens : Begins types tokens.brace behind inside

-- A `{` stands first, or behind the tag.
abbrev pub Opens : List ℕ → Option ℕ → List Token → List Token → Type 0
Opens types None text inside = Begins types tokens.brace text inside
Opens types (Some n) text inside = OpensBehindTag types n text inside

-- There is a body: these tokens are inside, behind its `{`.
pub record HasBody (types : List ℕ) (tag : Option ℕ) (text inside : List Token) : Type 0 where
  pub opens : Opens types tag text inside
  pub ended : IsEnded inside
  pub fewer : 1 + length inside ≤ length text

-- A tag stands first, with no `{` behind it.
pub record IsTagged (types : List ℕ) (tag : ℕ) (text rest : List Token) : Type 0 where
  pub tagged : IsTag tag text rest
  pub alone : Lacks types tokens.brace rest
  pub ended : IsEnded rest

-- There is a tag and no `{` behind it, only these tokens.
abbrev pub HasTag : List ℕ → Option ℕ → List Token → List Token → Type 0
HasTag types None text rest = ⊥
HasTag types (Some n) text rest = IsTagged types n text rest

-- No body is behind this first token: it is the specifier, or it and a tag are.
abbrev pub IsWithoutBody : Context → ℕ → Sort → List Token → Option ℕ → List Token → Type 0
IsWithoutBody g depth (tokens.mark tokens.struct) text tag rest = (1 ≤ depth) × HasTag g.types tag text rest
IsWithoutBody g depth (tokens.mark tokens.enum) text tag rest = HasTag g.types tag text rest
IsWithoutBody g depth _ text tag rest = (tag ≡ None) × (rest ≡ text)

-- What is behind this first token of a specifier.
abbrev pub IsHead : Context → ℕ → Token → List Token → Body → Option ℕ → List Token → Type 0
IsHead g depth x text bodies.Members tag rest = (is_mark tokens.struct (view g.types (sort_of x.kind)) ≡ true) × (2 ≤ depth) × HasBody g.types tag text rest
IsHead g depth x text bodies.Constants tag rest = (is_mark tokens.enum (view g.types (sort_of x.kind)) ≡ true) × HasBody g.types tag text rest
IsHead g depth x text bodies.Absent tag rest = IsWithoutBody g depth (view g.types (sort_of x.kind)) text tag rest

-- ---- lists

-- These tokens are behind the comma that stands first, or all, where none does.
abbrev pub IsPastComma : List ℕ → List Token → Bool → List Token → Type 0
IsPastComma types text true rest = Begins types tokens.comma text rest
IsPastComma types text false rest = (rest ≡ text) × Lacks types tokens.comma text
