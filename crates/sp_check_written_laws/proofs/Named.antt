-- The names that a text of bytes adds are bytes.
use Rattle.std.proofs.Common.{ℕ, ◌==◌, ◌&&◌, Bool, false, List, [], ◌∷◌, drop, Option, Some, None, Ok, sym, subst}
use Rattle.std.proofs.lemmas.List.Elements.{All-nil, All-cons, All-append}
use Rattle.std.specs.Prelude.{⊤, nat_eq, nat_le, codes}
use Rattle.std.specs.List.{starts_with}
use Rattle.sp_tree.specs.Names.{has_name, with_name}
use Rattle.sp_tree.specs.declared.token.Token.{Token}
use Rattle.sp_lexer.specs.declared.spot.Spot.{Spot}
use Rattle.sp_lexer.specs.Bytes.{is_gap, is_digit, is_not_newline, begins, front, after}
use Rattle.sp_lexer.specs.Extents.{before_quote}
use Rattle.sp_lexer.specs.Numerals.{value_of}
use Rattle.sp_lexer.specs.Markers.{Marker, named, pragma, are_flags, are_gaps, Numbered, name_before, name_then, number_then, numbered, checked, marker_after, marker_of}
use Rattle.sp_lexer.specs.Scan.{Lexeme, identifier, keyword, integer, character, string, punctuator, line_of, Step, over_blank, over_line_comment, over_block_comment, over_pragma_line, over_marker_line, over_last_line, over_spelling}
use Rattle.sp_lexer.specs.Named.{with_lexeme, with_piece, Collects, none_yet, one_more}
use Rattle.sp_check_written_laws.specs.Laws.{AreByteNames, NamesAreBytes}
use Rattle.sp_check_written_laws.proofs.Bytes.{AreBytes, choose, bytes_rest, bytes_drop, bytes_take, bytes_front, bytes_after, first_bytes}
use Rattle.sp_check_written_laws.proofs.Values.{IsInReach, in_reach}
use Rattle.sp_check_written_laws.proofs.Tokens.{bytes_next}

pub with_bytes : (names : List (List ℕ)) (bytes : List ℕ) → AreByteNames names → AreBytes bytes
    → AreByteNames (with_name names bytes)
with_bytes names bytes hs h = choose AreByteNames (has_name names bytes) _ _ hs
    (All-append AreBytes names (bytes ∷ []) hs (All-cons AreBytes bytes [] h (All-nil AreBytes)))

-- ---- marker lines

abbrev IsOfBytes : Option Numbered → Type 0
IsOfBytes None = ⊤
IsOfBytes (Some p) = AreBytes p.1

abbrev NamesBytes : Option Marker → Type 0
NamesBytes None = ⊤
NamesBytes (Some (named line name)) = AreBytes name
NamesBytes (Some pragma) = ⊤

quoted : (number : ℕ) (bytes : List ℕ) (o : Option ℕ) → AreBytes bytes → IsOfBytes (name_before number bytes o)
quoted number bytes None h = tt
quoted number bytes (Some n) h = bytes_take n bytes h

name_bytes : (number : ℕ) (bytes : List ℕ) → AreBytes bytes → IsOfBytes (name_then number bytes)
name_bytes number [] h = tt
name_bytes number (b ∷ bs) h = choose IsOfBytes (b == 34) _ _ (quoted number bs (before_quote false 34 bs) (bytes_rest b bs h)) tt

number_bytes : (bytes : List ℕ) → AreBytes bytes → IsOfBytes (number_then bytes)
number_bytes bytes h =
    choose IsOfBytes (begins is_digit bytes && begins is_gap (after is_digit bytes) && nat_le (value_of 10 (front is_digit bytes)) 2147483647) _ _
    (name_bytes (value_of 10 (front is_digit bytes)) (after is_gap (after is_digit bytes)) (bytes_after is_gap (after is_digit bytes) (bytes_after is_digit bytes h))) tt

numbered_bytes : (bytes : List ℕ) → AreBytes bytes → IsOfBytes (numbered bytes)
numbered_bytes bytes h =
    choose IsOfBytes (begins is_gap bytes) _ _ (number_bytes (after is_gap bytes) (bytes_after is_gap bytes h)) tt

checked_bytes : (test : List ℕ → Bool) (o : Option Numbered) → IsOfBytes o → NamesBytes (checked test o)
checked_bytes test None h = tt
checked_bytes test (Some p) h = choose NamesBytes (test p.2) _ _ h tt

after_bytes : (bytes : List ℕ) → AreBytes bytes → NamesBytes (marker_after bytes)
unfolding marker_after
after_bytes bytes h =
    choose NamesBytes (starts_with nat_eq bytes (codes "pragma")) _ _ tt
    (choose NamesBytes (starts_with nat_eq bytes (codes "line")) _ _
    (checked_bytes are_gaps (numbered (drop 4 bytes)) (numbered_bytes (drop 4 bytes) (bytes_drop 4 bytes h)))
    (checked_bytes are_flags (numbered bytes) (numbered_bytes bytes h)))

marker_bytes : (line : List ℕ) → AreBytes line → NamesBytes (marker_of line)
marker_bytes [] h = tt
marker_bytes (b ∷ bs) h = after_bytes bs (bytes_rest b bs h)

-- ---- pieces

lexeme_bytes : (names : List (List ℕ)) (x : Lexeme) → AreByteNames names → IsInReach x → AreByteNames (with_lexeme names x)
lexeme_bytes names (identifier bytes) hs h = with_bytes names bytes hs h
lexeme_bytes names (keyword k) hs h = hs
lexeme_bytes names (integer value) hs h = hs
lexeme_bytes names (character value) hs h = hs
lexeme_bytes names (string bytes) hs h = with_bytes names bytes hs h
lexeme_bytes names (punctuator punct) hs h = hs

module _ (new old : List (List ℕ)) (text next : List ℕ) (spot beyond : Spot) (o : Option Token) (hs : AreByteNames old) (h : AreBytes text) where
  piece_bytes : (s : Step new text spot o next beyond) → AreByteNames (with_piece old s)
  piece_bytes (over_blank b p is t y) = hs
  piece_bytes (over_line_comment p t is y) = hs
  piece_bytes (over_block_comment n p c t is y) = hs
  piece_bytes (over_pragma_line p m t is y) = hs
  piece_bytes (over_marker_line line name n p m s t is y) =
      with_bytes old name hs (subst NamesBytes m (marker_bytes (line_of text) (bytes_front is_not_newline text h)))
  piece_bytes (over_last_line line name p m t r is y) = hs
  piece_bytes (over_spelling front x k p b r i t y) =
      lexeme_bytes old x hs (in_reach front next (Ok x) (first_bytes next front (subst AreBytes b.whole h)) r)

-- ---- texts

-- what is left of a text, and the names so far
collected : (text : List ℕ) (from : Spot) (before : List (List ℕ)) (rest : List ℕ) (spot : Spot) (names : List (List ℕ))
    → AreBytes text → AreByteNames before → Collects text from before rest spot names → AreBytes rest × AreByteNames names
collected text from before rest spot names h hs none_yet = (h, hs)
collected text from before next beyond new h hs (one_more {rest = rest} {spot = spot} {names = names} done adds) =
    let so_far : AreBytes rest × AreByteNames names = collected text from before rest spot names h hs done in (
      bytes_next new rest next spot beyond adds.token so_far.0 adds.step,
      subst AreByteNames (sym adds.names_are)
          (piece_bytes new names rest next spot beyond adds.token so_far.1 so_far.0 adds.step),
    )

pub names_are_bytes : NamesAreBytes
names_are_bytes text from before after h hs collects =
    (collected text from before [] collects.0 after h hs collects.1).1
