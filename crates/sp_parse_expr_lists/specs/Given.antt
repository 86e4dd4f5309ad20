-- How far arguments and parameters have come.
use Rattle.std.specs.Prelude.{◌≡◌, ℕ, ◌≤◌, Bool, true, false, List, [], ◌∷◌, ◌++◌, map, length}
use Rattle.sp_tree.specs.declared.token.Token.{Token}
use Rattle.sp_parse_trees.specs.Syntax.{Expression}
use Rattle.sp_parse_trees.specs.View.{expressions, param_of, params}
use Rattle.sp_parse_trees.specs.Depth.{expressions_depth, params_depth}
use Rattle.sp_parse_trees.specs.declared.tree.Param.{Param as CodeParam}
use Rattle.sp_parse_grammar.specs.CTokens as tokens
use Rattle.sp_parse_grammar.specs.CTable as grammar
use Rattle.sp_parse_grammar.specs.CTable.{Context}
use Rattle.sp_parse_tokens.specs.SyntaxTrees.{syntax_trees}
use Rattle.sp_parse_tokens.specs.Ended.{IsEnded}
use Rattle.sp_parse_tokens.specs.declared.part.Parameters.{Parameters}
use Rattle.sp_parse_tokens.specs.declared.part.ReadError.{ReadError}
use Rattle.sp_parse_tokens.specs.declared.scope.AlsoAllowed.{AlsoAllowed}
use Rattle.sp_parse_tokens.specs.declared.scope.AlsoAllowed.TheVariants as also
use Rattle.sp_parse_expr_steps.specs.Reading.{IsRead, IsStop, IsStep}
use Rattle.sp_parse_expr_steps.specs.Declaring.{AreGiven, IsGiven, ParametersSoFar}
use Rattle.sp_parse_expr_lists.specs.Heads.{Begins, Lacks}

-- ---- arguments

-- Another argument is left behind these.
pub record IsBeforeArgument (g : Context) (depth : ℕ) (text : List Token) (es : List Expression) (reached : ℕ) (rest : List Token) : Type 0 where
  pub takes : (o : grammar.Operand syntax_trees) (n : ℕ) (later : List Token) → IsRead g (grammar.level 12) depth rest o n later → IsStep g grammar.arguments (grammar.more_arguments (es ++ o.tree ∷ [])) (λ a. a) text later
  pub stops : (s : ReadError) → IsStop g (grammar.level 12) depth rest s → IsStop g grammar.arguments depth text s
  pub deep : reached ≡ expressions_depth (expressions es)
  pub shallow : reached ≤ depth
  pub ended : IsEnded rest
  pub fewer : length rest ≤ length text

-- These arguments are read. The flag says whether another is left.
abbrev pub HasArguments : Context → ℕ → List Token → Bool → List Expression → ℕ → List Token → Type 0
HasArguments g depth text true es reached rest = IsBeforeArgument g depth text es reached rest
HasArguments g depth text false es reached rest = IsRead g grammar.arguments depth text es reached rest

-- ---- parameters

-- Another parameter is left behind these.
pub record IsBeforeParameter (g : Context) (depth : ℕ) (text : List Token) (items : List CodeParam) (reached : ℕ) (rest : List Token) : Type 0 where
  pub takes : (p : CodeParam) (behind : AlsoAllowed) (n : ℕ) (later : List Token) → IsGiven g depth rest p behind n later → (now : List CodeParam) → now ≡ items ++ p ∷ [] → ParametersSoFar g text now behind later
  pub stops : (s : ReadError) → IsStop g grammar.parameter depth rest s → IsStop g grammar.parameters depth text s
  pub deep : reached ≡ params_depth (params (map param_of items))
  pub shallow : reached ≤ depth
  pub ended : IsEnded rest
  pub fewer : length rest ≤ length text

-- These parameters are read. The flag says whether another is left.
abbrev pub HasParameters : Context → ℕ → List Token → Parameters → Bool → ℕ → List Token → Type 0
HasParameters g depth text ps true reached rest = IsBeforeParameter g depth text ps.all.items reached rest
HasParameters g depth text ps false reached rest = AreGiven g depth text ps reached rest

-- A comma and `...` stand first.
pub record BeginsDots (types : List ℕ) (text rest : List Token) : Type 0 where
  pub mid : List Token
  pub comma : Begins types tokens.comma text mid
  pub dots : Begins types tokens.ellipsis mid rest

-- What is behind a parameter: a comma and another one, a comma and `...`, or neither.
abbrev pub IsListEnd : List ℕ → List Token → AlsoAllowed → Bool → Bool → AlsoAllowed → List Token → Type 0
IsListEnd types text back true true behind rest = ⊥
IsListEnd types text back true false behind rest = (behind ≡ back) × Begins types tokens.comma text rest × Lacks types tokens.ellipsis rest
IsListEnd types text back false true behind rest = (behind ≡ also.Nothing) × BeginsDots types text rest
IsListEnd types text back false false behind rest = (behind ≡ back) × (rest ≡ text) × Lacks types tokens.comma text
