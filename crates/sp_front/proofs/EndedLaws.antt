-- The tokens of a text end with its end, which is nowhere else among them.
use Rattle.std.proofs.Common.{◌≡◌, ◌≢◌, ℕ, List, [], ◌∷◌, ◌++◌, Option, Some, None, Ok, Err, refl, sym, ap, ◌∙◌, subst}
use Rattle.std.specs.Prelude.{Result}
use Rattle.sp_tree.specs.declared.fault.Fault.{Fault}
use Rattle.sp_tree.specs.declared.token.Kind.{Kind}
use Rattle.sp_tree.specs.declared.token.Kind.TheVariants.{End}
use Rattle.sp_tree.specs.declared.token.Token.{Token}
use Rattle.sp_lexer.specs.declared.spot.Spot.{Spot}
use Rattle.sp_lexer.specs.Scan.{Lexeme, identifier, keyword, integer, character, string, punctuator, IsKind, Step, over_blank, over_line_comment, over_block_comment, over_pragma_line, over_marker_line, over_last_line, over_spelling, Passes, here, past, onward, IsAnswer, scanned, refused, past_room, end_token}
use Rattle.sp_parse_tokens.specs.Ended.{IsEnded}

lexed : (names : List (List ℕ)) (x : Lexeme) (k : Kind) → IsKind names x k → k ≢ End
lexed names (identifier bytes) k h e = let is = h.2 in absurd cc
lexed names (keyword w) k h e = absurd cc
lexed names (integer n) k h e = absurd cc
lexed names (character n) k h e = absurd cc
lexed names (string bytes) k h e = let is = h.2 in absurd cc
lexed names (punctuator p) k h e = absurd cc

same_kind : (t u : Token) → Some t ≡ Some u → t.kind ≡ u.kind
same_kind t u e = ap kind_of e
  where
    kind_of : Option Token → Kind
    kind_of None = End
    kind_of (Some x) = x.kind

stepped : (names : List (List ℕ)) (text : List ℕ) (spot : Spot) (t : Token) (next : List ℕ) (beyond : Spot) → Step names text spot (Some t) next beyond → ¬ (t.kind ≡ End)
stepped names text spot t next beyond (over_blank b p q none e) = absurd cc
stepped names text spot t next beyond (over_line_comment p none q e) = absurd cc
stepped names text spot t next beyond (over_block_comment n p q none r e) = absurd cc
stepped names text spot t next beyond (over_pragma_line p q none r e) = absurd cc
stepped names text spot t next beyond (over_marker_line line name n p q r none s e) = absurd cc
stepped names text spot t next beyond (over_last_line line name p q none r s e) = absurd cc
stepped names text spot t next beyond (over_spelling front lexeme kind p q r is some e) = λ end.
    lexed names lexeme kind is (sym (same_kind t (record { kind = kind; place = spot.place }) some) ∙ end)

ended_before : (t : Token) (ts : List Token) (last : Token) → t.kind ≢ End → IsEnded (ts ++ last ∷ []) → IsEnded (t ∷ (ts ++ last ∷ []))
ended_before t [] last apart h = (apart, h)
ended_before t (u ∷ ts) last apart h = (apart, h)

passed : (names : List (List ℕ)) (text : List ℕ) (spot : Spot) (tokens : List Token) (rest : List ℕ) (end : Spot) → Passes names text spot tokens rest end → (last : Token) → last.kind ≡ End → IsEnded (tokens ++ last ∷ [])
passed names text spot tokens rest end here last e = e
passed names text spot tokens rest end (past {next = next} {beyond = beyond} s more) last e = passed names next beyond tokens rest end more last e
passed names text spot tokens rest end (onward {next = next} {beyond = beyond} {token = t} {tokens = ts} s more) last e =
    ended_before t ts last (stepped names text spot t next beyond s) (passed names next beyond ts rest end more last e)

ok_is : (a b : List Token) → ◌≡◌ {A = Result (List Token) Fault} (Ok a) (Ok b) → a ≡ b
ok_is a b e = ap tokens_of e
  where
    tokens_of : Result (List Token) Fault → List Token
    tokens_of (Ok x) = x
    tokens_of (Err x) = a

-- what is scanned is ended
pub scanned_ended : (names : List (List ℕ)) (text : List ℕ) (from : Spot) (room : ℕ) (tokens : List Token) → IsAnswer names text from room (Ok tokens) → IsEnded tokens
scanned_ended names text from room tokens (scanned ts end passes few is) =
    subst IsEnded (sym (ok_is tokens (ts ++ end_token end ∷ []) is)) (passed names text from ts [] end passes (end_token end) refl)
scanned_ended names text from room tokens (refused ts rest end kind passes few stands is) = absurd cc
scanned_ended names text from room tokens (past_room ts rest end passes many begins is) = absurd cc
