-- The first token of a text, which has one, since each text is ended.
use Rattle.std.proofs.Common.{◌≡◌, ℕ, true, List, [], ◌∷◌, refl, subst}
use Rattle.sp_tree.specs.declared.token.Token.{Token}
use Rattle.sp_parse_grammar.specs.CTokens as tokens
use Rattle.sp_parse_grammar.specs.CTokens.{is_mark, view}
use Rattle.sp_parse_tokens.specs.Sorts.{sort_of}
use Rattle.sp_parse_tokens.specs.Ended.{IsEnded}
use Rattle.sp_parse_tokens.proofs.Viewing.{ended_other}

pub record Begun (text : List Token) : Type 0 where
  pub first : Token
  pub behind : List Token
  pub whole : text ≡ first ∷ behind

pub begun_by : (text : List Token) → IsEnded text → Begun text
begun_by [] ended = absurd ended
begun_by (x ∷ xs) ended = record { first = x; behind = xs; whole = refl }

-- behind a `(`
pub opened : (types : List ℕ) (x : Token) (xs : List Token) → is_mark tokens.opening (view types (sort_of x.kind)) ≡ true → IsEnded (x ∷ xs) → IsEnded xs
opened types x xs stands e = ended_other x xs e (λ same. no_end (subst (λ v. is_mark tokens.opening (view types v) ≡ true) same stands))
  where
    no_end : is_mark tokens.opening (view types (tokens.mark tokens.end)) ≡ true → ⊥
    no_end f = cc
