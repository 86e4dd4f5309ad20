-- What the readers answer: what the grammar reads of the tokens, or where that ends.
use Rattle.std.specs.Prelude.{◌≡◌, ℕ, Result, MatchResult, ◌+◌, ◌-◌, ◌≤◌, ◌==◌, ◌⊎◌, if◌then◌else◌, Bool, true, false, List, [], ◌∷◌, length, ⊤}
use Rattle.sp_tree.specs.declared.fault.FaultKind.{FaultKind}
use Rattle.sp_tree.specs.declared.fault.FaultKind.TheVariants.{UnexpectedToken}
use Rattle.sp_tree.specs.declared.token.Token.{Token}
use Rattle.sp_parse_tokens.specs.declared.scope.AlsoAllowed.{AlsoAllowed}
use Rattle.sp_parse_tokens.specs.declared.scope.AlsoAllowed.TheVariants as also
use Rattle.sp_parse_tokens.specs.declared.scope.Scope.{Scope}
use Rattle.sp_parse_tokens.specs.Expecting.{IsExpected, IsUnexpected}
use Rattle.sp_parse_tokens.specs.declared.part.Part.{Part}
use Rattle.sp_parse_tokens.specs.declared.part.ReadError.{ReadError}
use Rattle.sp_parse_tokens.specs.Scopes.{allowed_seen}
use Rattle.sp_parse_tokens.specs.declared.part.ReadError.TheVariants as stops
use Rattle.sp_parse_grammar.specs.CTokens as tokens
use Rattle.sp_parse_grammar.specs.CTokens.{Sort, view}
use Rattle.sp_parse_grammar.specs.CTable as grammar
use Rattle.sp_parse_grammar.specs.CTable.{Context, Item, ItemAnswer, at}
use Rattle.sp_parse_grammar.specs.Table.{ask, Reads, Fails}
use Rattle.sp_parse_grammar.specs.Depth.{Nests}
use Rattle.sp_parse_tokens.specs.Sorts.{c_tokens, Terminal, terminal, sort_of}
use Rattle.sp_parse_tokens.specs.SyntaxTrees.{syntax_trees, c_table}
use Rattle.sp_parse_tokens.specs.Depths.{c_depths, item_depth}
use Rattle.sp_parse_tokens.specs.Faults.{Wanted, fault_there, sort_there}
use Rattle.sp_parse_tokens.specs.Ended.{IsEnded}
use Rattle.sp_parse_expr_steps.specs.States.{Before}
use Rattle.sp_parse_tokens.specs.declared.part.Operand.{Operand}
use Rattle.sp_parse_trees.specs.Syntax.{Expression, TypeName}
use Rattle.sp_parse_trees.specs.View.{tree_of}
use Rattle.sp_parse_trees.specs.Depth as deep
use Rattle.sp_parse_tokens.specs.Makers.{settle_type, first_place}

-- ---- the kind of a fault

-- by what was wanted and the failing token
abbrev pub kind_at : Wanted → List Token → FaultKind
kind_at w [] = UnexpectedToken
kind_at w (x ∷ xs) = fault_there w (sort_there w x)

-- ---- parts and stops

-- how many tokens a part takes at least
abbrev pub taken : Item syntax_trees → ℕ
taken (grammar.level k) = 1
taken (grammar.behind_open x) = 1
taken grammar.unary = 1
taken grammar.primary = 1
taken (grammar.behind_sizeof x) = 1
taken (grammar.inside_sizeof x y) = 1
taken grammar.type_name = 1
taken (grammar.specifiers stores seen sp) = 0
taken (grammar.behind_struct x) = 1
taken (grammar.behind_enum x) = 1
taken grammar.member = 1
taken grammar.enumerator = 1
taken grammar.parameter = 1
taken _ = 0

-- The answer is read for the ask, is as deep as said and no deeper than allowed, and leaves these tokens.
pub record IsRead (g : Context) (i : Item syntax_trees) (depth : ℕ) (text : List Token) (a : ItemAnswer i) (reached : ℕ) (rest : List Token) : Type 0 where
  pub reads : Reads c_table (at g i) (ask (at g i)) (c_tokens text) a (c_tokens rest)
  pub deep : reached ≡ item_depth i a
  pub shallow : reached ≤ depth
  pub ended : IsEnded rest
  pub fewer : taken i + length rest ≤ length text

-- The failing token with the fault's kind, or the token at which the depth is passed.
abbrev pub IsStop : Context → Item syntax_trees → ℕ → List Token → ReadError → Type 0
IsStop g i depth text (stops.Fault kind rest) = (w : Wanted) × Fails c_table (at g i) (ask (at g i)) (c_tokens text) w (c_tokens rest.now) × (kind ≡ kind_at w rest.now) × IsEnded rest.now
IsStop g i depth text (stops.TooDeep rest) = Nests c_table c_depths (at g i) depth (c_tokens text) (c_tokens rest.now) × IsEnded rest.now
IsStop g i depth text stops.NoMemory = ⊤

-- The answer of a reader: its part is read for the ask, or it tells where that ends.
abbrev pub Answers : {T : Type 0} (g : Context) (i : Item syntax_trees) (depth : ℕ)
    (text : List Token) (seen : T → ItemAnswer i) → Result (Part T) ReadError → Type 0
Answers g i depth text seen result = MatchResult result
    (λ part. IsRead g i depth text (seen part.tree) part.depth part.rest.now)
    (IsStop g i depth text)

-- Of the first ask at the first tokens the second at the last tokens is left, whose answers are the first's.
abbrev pub IsStep : (g : Context) (i j : Item syntax_trees) → (ItemAnswer j → ItemAnswer i) → List Token → List Token → Type 0
IsStep g i j f text rest = Before c_table c_depths (at g i) (at g j) f (c_tokens text) (c_tokens rest)

-- the operand, with its tree
abbrev pub operand_seen : Operand → grammar.Operand syntax_trees
operand_seen o = record { tree = tree_of o.tree; unary = o.unary }

-- The strings are read behind the first, and make this expression.
pub record AreTexts (g : Context) (first : Token) (text : List Token) (tree : Expression) (rest : List Token) : Type 0 where
  pub all : List Terminal
  pub reads : Reads c_table (at g (grammar.texts (terminal first ∷ []))) (ask (at g (grammar.texts (terminal first ∷ [])))) (c_tokens text) all (c_tokens rest)
  pub makes : tree ≡ syntax_trees.texts all
  pub ended : IsEnded rest
  pub fewer : length rest ≤ length text

-- One suffix was read behind an expression, and makes this one of it.
pub record IsSuffixed (g : Context) (inner : Expression) (depth : ℕ) (text : List Token) (tree : Expression) (reached : ℕ) (rest : List Token) : Type 0 where
  pub step : IsStep g (grammar.suffixes inner) (grammar.suffixes tree) (λ a. a) text rest
  pub deep : reached ≡ deep.depth tree
  pub shallow : reached ≤ depth
  pub ended : IsEnded rest
  pub fewer : 1 + length rest ≤ length text

-- A type name was read; it stands before these tokens.
pub record IsTypeName (g : Context) (depth : ℕ) (text : List Token) (name : TypeName) (p : AlsoAllowed) (reached : ℕ) (rest : List Token) : Type 0 where
  pub pending : TypeName
  pub settled : name ≡ settle_type (first_place rest) pending
  pub read : IsRead g grammar.type_name depth text (record { tree = pending; behind = allowed_seen p }) reached rest

-- an operation of the level: the comma, or a binary one
abbrev pub joined_tree : ℕ → Terminal → Expression → Expression → Expression
joined_tree k x l r = if k == 13 then syntax_trees.sequence x l r else syntax_trees.binary x l r

-- what the first token is, where these are the type names
abbrev pub first_sort : List ℕ → List Token → Sort
first_sort types [] = tokens.mark tokens.end
first_sort types (x ∷ xs) = view types (sort_of x.kind)

-- Behind a `(` an expression, the `)` and suffixes are read, and make this expression.
pub record IsGrouped (g : Context) (opening : Token) (depth : ℕ) (text : List Token) (tree : Expression) (reached : ℕ) (rest : List Token) : Type 0 where
  pub inner : grammar.Operand syntax_trees
  pub mid : List Token
  pub one : Reads c_table (at g (grammar.level 13)) (ask (at g (grammar.level 13))) (c_tokens text) inner (c_tokens mid)
  pub behind : List Token
  pub closes : IsExpected g.types tokens.closing mid behind
  pub more : IsRead g (grammar.suffixes (syntax_trees.paren (terminal opening) inner.tree)) depth behind tree reached rest
  pub fewer : 1 + length rest ≤ length text

pub record StopsAtParen (g : Context) (scope : Scope) (text : List Token) (stop : ReadError) : Type 0 where
  pub inner : grammar.Operand syntax_trees
  pub mid : List Token
  pub one : Reads c_table (at g (grammar.level 13)) (ask (at g (grammar.level 13))) (c_tokens text) inner (c_tokens mid)
  pub ended : IsEnded mid
  pub why : IsUnexpected g.types scope tokens.closing also.Nothing mid stop

pub record StopsBehindParen (g : Context) (opening : Token) (depth : ℕ) (text : List Token) (stop : ReadError) : Type 0 where
  pub inner : grammar.Operand syntax_trees
  pub mid : List Token
  pub one : Reads c_table (at g (grammar.level 13)) (ask (at g (grammar.level 13))) (c_tokens text) inner (c_tokens mid)
  pub behind : List Token
  pub closes : IsExpected g.types tokens.closing mid behind
  pub why : IsStop g (grammar.suffixes (syntax_trees.paren (terminal opening) inner.tree)) depth behind stop

abbrev pub IsGroupedStop : Context → Scope → Token → ℕ → List Token → ReadError → Type 0
IsGroupedStop g scope opening depth text stops.NoMemory = ⊤
IsGroupedStop g scope opening depth text stop = IsStop g (grammar.level 13) (depth - 1) text stop ⊎ (StopsAtParen g scope text stop ⊎ StopsBehindParen g opening depth text stop)

-- the token goes on with a postfix expression
abbrev pub is_suffix : Sort → Bool
is_suffix (tokens.mark tokens.bracket) = true
is_suffix (tokens.mark tokens.opening) = true
is_suffix (tokens.mark tokens.member) = true
is_suffix (tokens.mark tokens.step) = true
is_suffix _ = false

-- the token is an operator before its operand
abbrev pub is_prefix : Sort → Bool
is_prefix (tokens.mark tokens.step) = true
is_prefix (tokens.mark tokens.star) = true
is_prefix (tokens.mark tokens.ampersand) = true
is_prefix (tokens.mark tokens.additive) = true
is_prefix (tokens.mark tokens.tilde) = true
is_prefix (tokens.mark tokens.sizeof) = true
is_prefix _ = false

-- the token is a name, a constant or a string
abbrev pub is_operand : Sort → Bool
is_operand (tokens.name n) = true
is_operand tokens.constant = true
is_operand tokens.text = true
is_operand _ = false
