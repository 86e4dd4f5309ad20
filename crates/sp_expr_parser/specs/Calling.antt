-- What the parts of the four calls answer.
use Rattle.std.specs.Prelude.{◌≡◌, ◌≢◌, ◌↔◌, IsTrue, ℕ, ◌≤◌, ◌<◌, List, [], ◌∷◌, ◌++◌, length, Bool, true, false, if◌then◌else◌, Result, MatchResult, ⊤}
use Rattle.sp_tree.specs.declared.fault.FaultKind.{FaultKind}
use Rattle.sp_tree.specs.declared.fault.FaultKind.TheVariants.{UnexpectedToken, NestingTooDeep, OldStyleParameters, ImplicitInt, VariadicDefinition, BitField, GnuWord, TypedefAsOrdinaryName}
use Rattle.sp_tree.specs.declared.token.Kind.{Kind}
use Rattle.sp_tree.specs.declared.token.Kind.TheVariants as kinds
use Rattle.sp_tree.specs.declared.token.Token.{Token}
use Rattle.sp_parse_trees.specs.declared.tree.Specifier.{Specifier}
use Rattle.sp_parse_trees.specs.View.{specifiers_of}
use Rattle.sp_parse_trees.specs.Depth.{specifiers_depth}
use Rattle.sp_parse_grammar.specs.CTokens.{Sort, mark, end, view}
use Rattle.sp_parse_grammar.specs.CTable as grammar
use Rattle.sp_parse_grammar.specs.CTable.{Answer, at}
use Rattle.sp_parse_grammar.specs.Table.{ask, Reads}
use Rattle.sp_parse_tokens.specs.Sorts.{c_tokens, sort_of}
use Rattle.sp_parse_tokens.specs.SyntaxTrees.{syntax_trees, c_table}
use Rattle.sp_parse_tokens.specs.Makers.{all_specifiers}
use Rattle.sp_parse_tokens.specs.Ended.{IsEnded}
use Rattle.sp_parse_tokens.specs.Refined.{refine}
use Rattle.sp_parse_laws.specs.Answers.{Language, kinds_of, BeginsTree, IsTree}
use Rattle.sp_expr_parser.specs.declared.call.Call.{Call}
use Rattle.sp_expr_parser.specs.declared.error.ParseError.{ParseError}
use Rattle.sp_expr_parser.specs.declared.error.ParseError.TheVariants as errors
use Rattle.sp_expr_parser.specs.Parsing.{ask_of, IsImplicitInt, IsTypeForName}

-- the sort of the first token
abbrev pub sort_of_first : List ℕ → List Token → Sort
sort_of_first types [] = mark end
sort_of_first types (x ∷ xs) = view types (sort_of x.kind)

-- A list of specifiers was read, or there is none.
pub record AreListed (types : List ℕ) (depth : ℕ) (text : List Token) (items : List Specifier) (rest : List Token) : Type 0 where
  pub all : grammar.Specified syntax_trees
  pub reads : Reads c_table (at (grammar.outside types) grammar.optional_specifiers) (ask (at (grammar.outside types) grammar.optional_specifiers)) (c_tokens text) all (c_tokens rest)
  pub same : specifiers_of items ≡ all_specifiers all.all
  pub shallow : specifiers_depth (specifiers_of items) ≤ depth
  pub ended : IsEnded rest
  pub fewer : length rest ≤ length text

-- A tree of the call was read, and these tokens are left.
pub record IsEnd (call : Call) (types : List ℕ) (text rest : List Token) : Type 0 where
  pub answer : Answer (ask_of call types)
  pub reads : Reads c_table (ask_of call types) (ask (ask_of call types)) (c_tokens text) answer (c_tokens rest)
  pub ended : IsEnded rest

-- The tokens before a failing one: some tree goes on, and none ends.
pub record IsFront (L : Language) (types : List ℕ) (front : List Token) : Type 0 where
  pub goes_on : BeginsTree L types (kinds_of front)
  pub none_whole : ¬ IsTree L types (kinds_of front)

-- The depth is passed at one of these tokens.
pub record IsPassed (L : Language) (types : List ℕ) (depth : ℕ) (front : List Token) (error : ParseError) : Type 0 where
  pub before : List Token
  pub bad : Token
  pub after : List Token
  pub whole : front ≡ before ++ bad ∷ after
  pub same : error ≡ errors.Fault (record { kind = NestingTooDeep; place = bad.place })
  pub goes_on : BeginsTree L types (kinds_of before ++ bad.kind ∷ [])
  pub deeper : (tree : L.Tree) (rest : List Kind) → L.Levelled types tree → L.kinds tree ≡ (kinds_of before ++ bad.kind ∷ []) ++ rest → depth < L.depth tree

-- Why a question on the tokens before a failing one had no answer.
abbrev pub IsUnanswered : (L : Language) → List ℕ → ℕ → List Token → ParseError → Type 0
IsUnanswered L types depth front errors.NoMemory = ⊤
IsUnanswered L types depth front error = IsPassed L types depth front error

-- These tokens hold no end.
abbrev pub NoEnd : List Token → Type 0
NoEnd [] = ⊤
NoEnd (x ∷ xs) = (x.kind ≢ kinds.End) × NoEnd xs

-- A question on the tokens before a failing one is answered, or the answer is unknown.
abbrev pub Tells : (L : Language) → List ℕ → ℕ → List Token → Type 0 → Result Bool ParseError → Type 0
Tells L types depth front Holds result = MatchResult result (λ yes. IsTrue yes ↔ Holds) (IsUnanswered L types depth front)

-- OldStyleParameters, VariadicDefinition or BitField, which what the grammar wanted tells
abbrev pub is_wanted : FaultKind → Bool
is_wanted OldStyleParameters = true
is_wanted VariadicDefinition = true
is_wanted BitField = true
is_wanted _ = false

-- GnuWord, LongLong or UnexpectedToken, by the tokens alone
abbrev pub is_block : FaultKind → Bool
is_block GnuWord = true
is_block _ = false

-- the first of ImplicitInt, GnuWord, TypedefAsOrdinaryName and LongLong that holds
abbrev pub choose : Bool → Bool → FaultKind → FaultKind
choose implicit ordinary last = if implicit then ImplicitInt else if is_block last then GnuWord else if ordinary then TypedefAsOrdinaryName else last

-- The kind of a fault that is none of OldStyleParameters, VariadicDefinition, BitField.
pub record IsTold (L : Language) (types : List ℕ) (before front : List Token) (bad : Token) (kind : FaultKind) : Type 0 where
  pub implicit : Bool
  pub implicit_is : IsTrue implicit ↔ IsImplicitInt L types front bad
  pub ordinary : Bool
  pub ordinary_is : IsTrue ordinary ↔ IsTypeForName L types front bad
  pub same : kind ≡ choose implicit ordinary (refine UnexpectedToken before bad)
