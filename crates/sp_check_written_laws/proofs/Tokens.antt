-- The tokens of a text of bytes are in range.
use Rattle.std.proofs.Common.{◌≡◌, ℕ, ◌<◌, List, [], ◌∷◌, ◌++◌, Option, Some, None, Result, Ok, Err, All, sym, subst}
use Rattle.std.proofs.lemmas.List.Elements.{All-nil, All-cons, All-append}
use Rattle.sp_tree.specs.declared.token.Token.{Token}
use Rattle.sp_tree.specs.declared.token.Kind.{Kind}
use Rattle.sp_tree.specs.declared.fault.Fault.{Fault}
use Rattle.sp_lexer.specs.declared.spot.Spot.{Spot}
use Rattle.sp_lexer.specs.Bytes.{is_not_newline}
use Rattle.sp_lexer.specs.Scan.{IsAnswer, Lexeme, identifier, keyword, integer, character, string, punctuator, IsKind, Step, over_blank, over_line_comment, over_block_comment, over_pragma_line, over_marker_line, over_last_line, over_spelling, Passes, here, past, onward, end_token, scanned, refused, past_room}
use Rattle.sp_check_written_laws.proofs.Ranges.{IsInRange}
use Rattle.sp_check_written_laws.proofs.Bytes.{AreBytes, bytes_rest, bytes_behind, bytes_drop, bytes_after, first_bytes}
use Rattle.sp_check_written_laws.proofs.Values.{IsInReach, in_reach}

some_is : (x y : Token) → Some x ≡ Some y → x ≡ y
some_is x y e = cc

abbrev pub Answer : Type 0
Answer = Result (List Token) Fault

abbrev pub answered : List Token → Answer
answered ts = Ok ts

ok_is : (x y : List Token) → answered x ≡ answered y → x ≡ y
ok_is x y e = cc

not_refused : (x : List Token) (f : Fault) → answered x ≡ Err f → ⊥
not_refused x f e = cc

abbrev pub IsRanged : Token → Type 0
IsRanged t = IsInRange t.kind

kind_in_range : (names : List (List ℕ)) (x : Lexeme) (k : Kind) → IsInReach x → IsKind names x k → IsInRange k
kind_in_range names (identifier bytes) k h is = subst IsInRange (sym is.2) tt
kind_in_range names (keyword w) k h is = subst IsInRange (sym is) tt
kind_in_range names (integer n) k h is = subst IsInRange (sym is) h
kind_in_range names (character z) k h is = subst IsInRange (sym is) h
kind_in_range names (string bytes) k h is = subst IsInRange (sym is.2) tt
kind_in_range names (punctuator p) k h is = subst IsInRange (sym is) tt

module _ (names : List (List ℕ)) where
  pub bytes_next : (text next : List ℕ) (spot beyond : Spot) (o : Option Token) → AreBytes text → Step names text spot o next beyond → AreBytes next
  bytes_next text next spot beyond o h (over_blank b p is t y) = bytes_rest b next (subst AreBytes is h)
  bytes_next text next spot beyond o h (over_line_comment p t is y) = subst AreBytes (sym is) (bytes_after is_not_newline text h)
  bytes_next text next spot beyond o h (over_block_comment n p c t is y) = subst AreBytes (sym is) (bytes_drop n text h)
  bytes_next text next spot beyond o h (over_pragma_line p m t is y) = subst AreBytes (sym is) (bytes_after is_not_newline text h)
  bytes_next text next spot beyond o h (over_marker_line line name n p m s t is y) =
      bytes_rest 10 next (subst AreBytes is (bytes_after is_not_newline text h))
  bytes_next text next spot beyond o h (over_last_line line name p m t r is y) = subst AreBytes (sym is) (All-nil (λ b. b < 256))
  bytes_next text next spot beyond o h (over_spelling front x k p b r i t y) = bytes_behind front next (subst AreBytes b.whole h)

  token_in_range : (text next : List ℕ) (spot beyond : Spot) (token : Token) → AreBytes text → Step names text spot (Some token) next beyond → IsRanged token
  token_in_range text next spot beyond token h (over_blank b p is t y) = cc
  token_in_range text next spot beyond token h (over_line_comment p t is y) = cc
  token_in_range text next spot beyond token h (over_block_comment n p c t is y) = cc
  token_in_range text next spot beyond token h (over_pragma_line p m t is y) = cc
  token_in_range text next spot beyond token h (over_marker_line line name n p m s t is y) = cc
  token_in_range text next spot beyond token h (over_last_line line name p m t r is y) = cc
  token_in_range text next spot beyond token h (over_spelling front x k p b r i t y) =
      subst IsRanged (sym (some_is token (record { kind = k; place = spot.place }) t))
      (kind_in_range names x k (in_reach front next (Ok x) (first_bytes next front (subst AreBytes b.whole h)) r) i)

  passed : (text rest : List ℕ) (spot end : Spot) (tokens : List Token) → AreBytes text → Passes names text spot tokens rest end → All IsRanged tokens
  passed text rest spot end tokens h here = All-nil IsRanged
  passed text rest spot end tokens h (past {next = next} {beyond = beyond} step on) =
      passed next rest beyond end tokens (bytes_next text next spot beyond None h step) on
  passed text rest spot end (token ∷ tokens) h (onward {next = next} {beyond = beyond} step on) =
      All-cons IsRanged token tokens (token_in_range text next spot beyond token h step)
      (passed next rest beyond end tokens (bytes_next text next spot beyond (Some token) h step) on)

pub tokens_in_range : (names : List (List ℕ)) (text : List ℕ) (from : Spot) (room : ℕ) (tokens : List Token) → AreBytes text
    → IsAnswer names text from room (answered tokens) → All IsRanged tokens
tokens_in_range names text from room tokens h (scanned ts end on short is) =
    subst (All IsRanged) (sym (ok_is tokens (ts ++ end_token end ∷ []) is))
    (All-append IsRanged ts (end_token end ∷ []) (passed names text [] from end ts h on) (All-cons IsRanged (end_token end) [] tt (All-nil IsRanged)))
tokens_in_range names text from room tokens h (refused ts rest end kind on short stands is) = absurd (not_refused tokens _ is)
tokens_in_range names text from room tokens h (past_room ts rest end on short begins is) = absurd (not_refused tokens _ is)
