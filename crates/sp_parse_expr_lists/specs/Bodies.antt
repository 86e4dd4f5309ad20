-- How far the bodies of structures and enumerations have come.
use Rattle.std.specs.Prelude.{◌≡◌, ℕ, ◌+◌, ◌-◌, ◌≤◌, Bool, true, false, List, [], ◌∷◌, ◌++◌, length, None}
use Rattle.sp_tree.specs.declared.fault.Place.{Place}
use Rattle.sp_tree.specs.declared.token.Token.{Token}
use Rattle.sp_parse_trees.specs.Syntax.{Declaration}
use Rattle.sp_parse_trees.specs.View.{declarations}
use Rattle.sp_parse_trees.specs.Depth.{declarations_depth, enumerators_depth}
use Rattle.sp_parse_grammar.specs.CTokens as tokens
use Rattle.sp_parse_grammar.specs.CTokens.{view}
use Rattle.sp_parse_grammar.specs.CTable as grammar
use Rattle.sp_parse_grammar.specs.CTable.{Context, at, begins_specifiers}
use Rattle.sp_parse_grammar.specs.Table.{ask, Reads}
use Rattle.sp_parse_tokens.specs.Sorts.{c_tokens, sort_of}
use Rattle.sp_parse_tokens.specs.SyntaxTrees.{c_table}
use Rattle.sp_parse_tokens.specs.Makers.{Enumerator, all_enumerators}
use Rattle.sp_parse_tokens.specs.Ended.{IsEnded}
use Rattle.sp_parse_tokens.specs.declared.part.ReadError.{ReadError}
use Rattle.sp_parse_tokens.specs.declared.scope.Scope.{Scope}
use Rattle.sp_parse_expr_steps.specs.Reading.{IsRead, IsStop, IsStep}
use Rattle.sp_parse_expr_steps.specs.Declaring.{IsBodyStop, IsConstantsStop, constant_seen}
use Rattle.sp_parse_expr_lists.specs.Heads.{Begins, Lacks}

-- ---- constants of enumerations

-- A constant has a value: its name stands first, and behind it an `=` and these tokens.
pub record IsValued (types : List ℕ) (n : ℕ) (p : Place) (text rest : List Token) : Type 0 where
  pub first : Token
  pub behind : List Token
  pub whole : text ≡ first ∷ behind
  pub is : tokens.name n ≡ view types (sort_of first.kind)
  pub at_place : p ≡ first.place
  pub equals : Begins types tokens.equal behind rest

-- The name of a constant is read. The flag says whether its value is left.
abbrev pub IsConstantName : Context → ℕ → List Token → ℕ → Place → Bool → List Token → Type 0
IsConstantName g depth text n p true rest = (1 ≤ depth) × IsValued g.types n p text rest × (1 + length rest ≤ length text) × IsEnded rest
IsConstantName g depth text n p false rest = IsRead g grammar.enumerator depth text (constant_seen (n, p, None)) 0 rest

-- Behind the `{` these constants are read.
pub record ConstantsAreBehind (g : Context) (inside : List Token) (es : List Enumerator) (rest : List Token) : Type 0 where
  pub first : Enumerator
  pub mid : List Token
  pub one : Reads c_table (at g grammar.enumerator) (ask (at g grammar.enumerator)) (c_tokens inside) first (c_tokens mid)
  pub step : IsStep g (grammar.enumerators (first ∷ [])) (grammar.enumerators es) (λ a. a) mid rest

-- Another constant is left behind these: the first, or one behind a comma.
pub record IsBeforeConstant (g : Context) (scope : Scope) (depth : ℕ) (inside : List Token) (es : List Enumerator) (rest : List Token) : Type 0 where
  pub takes : (e : Enumerator) (later : List Token) → Reads c_table (at g grammar.enumerator) (ask (at g grammar.enumerator)) (c_tokens rest) e (c_tokens later) → ConstantsAreBehind g inside (es ++ e ∷ []) later
  pub stops : (s : ReadError) → IsStop g grammar.enumerator depth rest s → IsConstantsStop g scope depth inside s

-- These constants are read. The flag says whether one is left: if not, no comma stands behind them.
abbrev pub ConstantsGoOn : Context → Scope → ℕ → List Token → Bool → List Enumerator → List Token → Type 0
ConstantsGoOn g scope depth inside true es rest = IsBeforeConstant g scope depth inside es rest
ConstantsGoOn g scope depth inside false es rest = ConstantsAreBehind g inside es rest × Lacks g.types tokens.comma rest

-- Behind the `{` of an enumeration these constants are read. The flag says whether another is left.
pub record HasConstants (g : Context) (scope : Scope) (depth : ℕ) (inside : List Token) (more : Bool) (es : List Enumerator) (reached : ℕ) (rest : List Token) : Type 0 where
  pub goes_on : ConstantsGoOn g scope depth inside more es rest
  pub deep : reached ≡ enumerators_depth (all_enumerators es)
  pub shallow : reached ≤ depth
  pub ended : IsEnded rest
  pub fewer : length rest ≤ length inside

-- ---- members of structures

-- No specifier stands first.
pub record LacksSpecifier (g : Context) (text : List Token) : Type 0 where
  pub first : Token
  pub behind : List Token
  pub whole : text ≡ first ∷ behind
  pub missing : begins_specifiers false g.inside (view g.types (sort_of first.kind)) ≡ false

-- Behind the `{` these members are read. The context is that around the structure.
pub record MembersAreBehind (g : Context) (inside : List Token) (ds : List Declaration) (rest : List Token) : Type 0 where
  pub first : Declaration
  pub mid : List Token
  pub one : Reads c_table (at (grammar.in_structure g) grammar.member) (ask (at (grammar.in_structure g) grammar.member)) (c_tokens inside) first (c_tokens mid)
  pub step : IsStep (grammar.in_structure g) (grammar.members (first ∷ [])) (grammar.members ds) (λ a. a) mid rest

-- Another member is left behind these.
pub record IsBeforeMember (g : Context) (scope : Scope) (depth : ℕ) (inside : List Token) (ds : List Declaration) (rest : List Token) : Type 0 where
  pub takes : (d : Declaration) (later : List Token) → Reads c_table (at (grammar.in_structure g) grammar.member) (ask (at (grammar.in_structure g) grammar.member)) (c_tokens rest) d (c_tokens later) → MembersAreBehind g inside (ds ++ d ∷ []) later
  pub stops : (s : ReadError) → IsStop (grammar.in_structure g) grammar.member (depth - 1) rest s → IsBodyStop g scope depth inside s

-- These members are read. The flag says whether one is left: if not, no specifier stands behind them.
abbrev pub MembersGoOn : Context → Scope → ℕ → List Token → Bool → List Declaration → List Token → Type 0
MembersGoOn g scope depth inside true ds rest = IsBeforeMember g scope depth inside ds rest
MembersGoOn g scope depth inside false ds rest = MembersAreBehind g inside ds rest × LacksSpecifier g rest

-- Behind the `{` of a structure these members are read. The flag says whether another is left.
-- The scope is that of the members.
pub record HasMembers (g : Context) (scope : Scope) (depth : ℕ) (inside : List Token) (more : Bool) (ds : List Declaration) (reached : ℕ) (rest : List Token) : Type 0 where
  pub goes_on : MembersGoOn g scope depth inside more ds rest
  pub deep : reached ≡ declarations_depth (declarations ds)
  pub shallow : reached ≤ depth - 1
  pub ended : IsEnded rest
  pub fewer : length rest ≤ length inside
