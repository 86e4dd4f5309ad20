-- What is said of one token: that a mark stands there, or the fault where it doesn't.
use Rattle.std.specs.Prelude.{◌≡◌, ℕ, true, false, List, [], ◌∷◌}
use Rattle.sp_tree.specs.declared.fault.FaultKind.{FaultKind}
use Rattle.sp_tree.specs.declared.token.Token.{Token}
use Rattle.sp_parse_tokens.specs.declared.scope.Scope.{Scope}
use Rattle.sp_parse_tokens.specs.declared.scope.AlsoAllowed.{AlsoAllowed}
use Rattle.sp_parse_tokens.specs.declared.part.ReadError.{ReadError}
use Rattle.sp_parse_tokens.specs.declared.part.ReadError.TheVariants as stops
use Rattle.sp_parse_grammar.specs.CTokens as tokens
use Rattle.sp_parse_grammar.specs.CTokens.{is_mark, view}
use Rattle.sp_parse_tokens.specs.Sorts.{sort_of}
use Rattle.sp_parse_tokens.specs.Ended.{IsEnded}
use Rattle.sp_parse_tokens.specs.Scopes.{kind_for}

-- the kind of the fault at the first token
abbrev pub kind_of_first : List ℕ → Scope → AlsoAllowed → List Token → FaultKind → Type 0
kind_of_first types scope p [] kind = ⊥
kind_of_first types scope p (x ∷ xs) kind = kind ≡ kind_for scope p (view types (sort_of x.kind))

abbrev pub IsFaultFor : List ℕ → Scope → AlsoAllowed → List Token → ReadError → Type 0
IsFaultFor types scope p text (stops.Fault kind rest) = (rest.now ≡ text) × kind_of_first types scope p text kind
IsFaultFor types scope p text _ = ⊥

-- The mark stands first, and these tokens behind it.
pub record IsExpected (types : List ℕ) (m : tokens.Mark) (text rest : List Token) : Type 0 where
  pub first : Token
  pub whole : text ≡ first ∷ rest
  pub stands : is_mark m (sort_of first.kind) ≡ true
  pub ended : IsEnded rest

-- Another token stands first, and that is the fault.
pub record IsUnexpected (types : List ℕ) (scope : Scope) (m : tokens.Mark) (p : AlsoAllowed) (text : List Token) (stop : ReadError) : Type 0 where
  pub first : Token
  pub behind : List Token
  pub whole : text ≡ first ∷ behind
  pub missing : is_mark m (sort_of first.kind) ≡ false
  pub fault : IsFaultFor types scope p text stop
