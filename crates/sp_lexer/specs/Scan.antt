-- The tokens of a text, and its first fault.
--
-- A text is a concatenation of pieces: blanks, comments, marker lines and spellings. Each spelling is the longest that begins
-- there. A spot is where a piece begins: its place, and whether only blanks stand before it on its line.
use Rattle.std.specs.Prelude.{◌≡◌, ℕ, ◌+◌, ◌-◌, ◌≤◌, ◌<◌, Bool, true, false, ◌&&◌, ◌==◌, ℤ, List, [], ◌∷◌, ◌++◌, length, take, drop, slice_get, slice_index, Option, Some, None, Result, Ok, Err, if◌then◌else◌}
use Rattle.sp_tree.specs.declared.fault.Place.{Place}
use Rattle.sp_tree.specs.declared.fault.Fault.{Fault}
use Rattle.sp_tree.specs.declared.fault.FaultKind.{FaultKind}
use Rattle.sp_tree.specs.declared.fault.FaultKind.TheVariants.{BadByte, OpenComment, OpenLiteral, MalformedLiteral, BadMarker, WideLiteral, TooManyTokens}
use Rattle.sp_tree.specs.declared.token.Token.{Token}
use Rattle.sp_tree.specs.declared.token.Kind.{Kind}
use Rattle.sp_tree.specs.declared.token.Kind.TheVariants as kinds
use Rattle.sp_tree.specs.declared.token.Number.{Number}
use Rattle.sp_tree.specs.declared.token.Keyword.{Keyword}
use Rattle.sp_tree.specs.declared.token.Punct.{Punct}
use Rattle.sp_tree.specs.Spellings.{mark_spelling}
use Rattle.sp_lexer.specs.declared.spot.Spot.{Spot}
use Rattle.sp_lexer.specs.declared.spot.Piece.{Piece}
use Rattle.sp_lexer.specs.declared.spot.Piece.TheVariants.{Blank, LineComment, BlockComment, MarkerLine, Spelling}
use Rattle.sp_lexer.specs.Bytes.{is_blank, is_quote, is_not_newline, begins, front, after}
use Rattle.sp_lexer.specs.Spelling.{is_word, is_run, BeginsWith, BeginsWithNone}
use Rattle.sp_lexer.specs.Numerals.{number_of}
use Rattle.sp_lexer.specs.Literals.{StandsFor, signed_char}
use Rattle.sp_lexer.specs.Words.{keyword_of, refused_word}
use Rattle.sp_lexer.specs.Markers.{named, pragma, marker_of}

-- ---- what a spelling stands for

-- a token's kind, with the bytes of names and texts in the place of their numbers
pub data Lexeme : Type 0 where
  identifier : List ℕ → Lexeme
  keyword : Keyword → Lexeme
  integer : Number → Lexeme
  character : ℤ → Lexeme
  string : List ℕ → Lexeme
  punctuator : Punct → Lexeme

-- the kind of a lexeme's token, where names have these numbers
abbrev pub IsKind : List (List ℕ) → Lexeme → Kind → Type 0
IsKind names (identifier bytes) kind = (n : ℕ) × (slice_get names n ≡ Some bytes) × (kind ≡ kinds.Name n)
IsKind names (keyword k) kind = kind ≡ kinds.Word k
IsKind names (integer value) kind = kind ≡ kinds.Number value
IsKind names (character value) kind = kind ≡ kinds.Char value
IsKind names (string bytes) kind = (n : ℕ) × (slice_get names n ≡ Some bytes) × (kind ≡ kinds.Text n)
IsKind names (punctuator punct) kind = kind ≡ kinds.Mark punct

-- the L of a wide literal
abbrev pub is_wide : List ℕ → List ℕ → Bool
is_wide [] next = false
is_wide (b ∷ []) next = b == 76 && begins is_quote next
is_wide (b ∷ c ∷ bs) next = false

abbrev pub unless_refused : Option FaultKind → Bool → List ℕ → Result Lexeme FaultKind
unless_refused (Some kind) wide front = Err kind
unless_refused None wide front = if wide then Err WideLiteral else Ok (identifier front)

abbrev pub unless_keyword : Option Keyword → Result Lexeme FaultKind → Result Lexeme FaultKind
unless_keyword (Some k) other = Ok (keyword k)
unless_keyword None other = other

-- what a word stands for, or the fault that it is
abbrev pub word_of : List ℕ → List ℕ → Result Lexeme FaultKind
word_of front next = unless_keyword (keyword_of front) (unless_refused (refused_word front) (is_wide front next) front)

abbrev pub as_number : Result Number FaultKind → Result Lexeme FaultKind
as_number (Ok value) = Ok (integer value)
as_number (Err kind) = Err kind

-- what a spelling before these bytes stands for, or the fault that it is
pub data Reads (front next : List ℕ) (verdict : Result Lexeme FaultKind) : Type 0 where
  reads_word : is_word front ≡ true → verdict ≡ word_of front next → Reads front next verdict
  reads_number : is_run front ≡ true → verdict ≡ as_number (number_of front) → Reads front next verdict
  reads_text :
      (body values : List ℕ) → front ≡ 34 ∷ body ++ 34 ∷ [] → StandsFor body values → verdict ≡ Ok (string values)
      → Reads front next verdict
  bad_text :
      (body : List ℕ) → front ≡ 34 ∷ body ++ 34 ∷ [] → ((values : List ℕ) → StandsFor body values → ⊥)
      → verdict ≡ Err MalformedLiteral → Reads front next verdict
  reads_character :
      (body : List ℕ) (value : ℕ) → front ≡ 39 ∷ body ++ 39 ∷ [] → StandsFor body (value ∷ [])
      → verdict ≡ Ok (character (signed_char value)) → Reads front next verdict
  bad_character :
      (body : List ℕ) → front ≡ 39 ∷ body ++ 39 ∷ [] → ((value : ℕ) → StandsFor body (value ∷ []) → ⊥)
      → verdict ≡ Err MalformedLiteral → Reads front next verdict
  reads_mark : (punct : Punct) → front ≡ mark_spelling punct → verdict ≡ Ok (punctuator punct) → Reads front next verdict

-- ---- pieces, and the spots after them

-- what begins at a spot, if the text doesn't end there
unfoldable pub piece_at : Bool → List ℕ → Option Piece
piece_at fresh [] = None
piece_at fresh (b ∷ bs) =
    if is_blank b then Some Blank
    else if b == 47 && begins (λ c. c == 47) bs then Some LineComment
    else if b == 47 && begins (λ c. c == 42) bs then Some BlockComment
    else if b == 35 && fresh then Some MarkerLine
    else Some Spelling

-- where a text begins: line 1 and column 1 under its name
abbrev pub start : ℕ → Spot
start name = record { place = record { name = name; line = 1; column = 1 }; fresh = true }

abbrev pub next_line : Place → Place
next_line place = record { name = place.name; line = place.line + 1; column = 1 }

abbrev pub columns_on : Place → ℕ → Place
columns_on place n = record { name = place.name; line = place.line; column = place.column + n }

-- the place after some bytes
abbrev pub place_after : Place → List ℕ → Place
place_after place [] = place
place_after place (b ∷ bs) = place_after (if b == 10 then next_line place else columns_on place 1) bs

-- the spot after a blank
abbrev pub after_blank : Spot → ℕ → Spot
after_blank spot b = if b == 10 then record { place = next_line spot.place; fresh = true } else record { place = columns_on spot.place 1; fresh = spot.fresh }

-- the spot after a piece of this length that has no newline and isn't blank
abbrev pub along : Spot → ℕ → Spot
along spot n = record { place = columns_on spot.place n; fresh = false }

-- the spot after a comment that may have newlines
abbrev pub beyond_comment : Spot → List ℕ → Spot
beyond_comment spot comment = record { place = place_after spot.place comment; fresh = false }

-- the rest of the line, and what stands after it, with the newline
abbrev pub line_of : List ℕ → List ℕ
line_of text = front is_not_newline text

abbrev pub after_line : List ℕ → List ℕ
after_line text = after is_not_newline text

abbrev pub closes_at : List ℕ → ℕ → Bool
closes_at text k = slice_index text k == 42 && slice_index text (k + 1) == 47

-- the first n bytes are a comment: its close is the first after the two bytes that open it
pub record IsBlockComment (text : List ℕ) (n : ℕ) : Type 0 where
  pub opened : 4 ≤ n
  pub within : n ≤ length text
  pub closed : closes_at text (n - 2) ≡ true
  pub first : (k : ℕ) → 2 ≤ k → k + 2 < n → closes_at text k ≡ false

-- from a spot over one piece: with its token, where it is a spelling, to what follows it
pub data Step (names : List (List ℕ)) (text : List ℕ) (spot : Spot) (token : Option Token) (next : List ℕ) (beyond : Spot) : Type 0 where
  over_blank :
      (b : ℕ) → piece_at spot.fresh text ≡ Some Blank → text ≡ b ∷ next → token ≡ None → beyond ≡ after_blank spot b
      → Step names text spot token next beyond
  over_line_comment :
      piece_at spot.fresh text ≡ Some LineComment → token ≡ None → next ≡ after_line text
      → beyond ≡ along spot (length (line_of text)) → Step names text spot token next beyond
  over_block_comment :
      (n : ℕ) → piece_at spot.fresh text ≡ Some BlockComment → IsBlockComment text n → token ≡ None
      → next ≡ drop n text → beyond ≡ beyond_comment spot (take n text) → Step names text spot token next beyond
  over_pragma_line :
      piece_at spot.fresh text ≡ Some MarkerLine → marker_of (line_of text) ≡ Some pragma → token ≡ None
      → next ≡ after_line text → beyond ≡ along spot (length (line_of text)) → Step names text spot token next beyond
  over_marker_line :
      (line : ℕ) (name : List ℕ) (n : ℕ) → piece_at spot.fresh text ≡ Some MarkerLine
      → marker_of (line_of text) ≡ Some (named line name) → slice_get names n ≡ Some name → token ≡ None
      → after_line text ≡ 10 ∷ next
      → beyond ≡ record { place = record { name = n; line = line; column = 1 }; fresh = true }
      → Step names text spot token next beyond
  over_last_line :
      (line : ℕ) (name : List ℕ) → piece_at spot.fresh text ≡ Some MarkerLine
      → marker_of (line_of text) ≡ Some (named line name) → token ≡ None → after_line text ≡ [] → next ≡ []
      → beyond ≡ along spot (length (line_of text)) → Step names text spot token next beyond
  over_spelling :
      (front : List ℕ) (lexeme : Lexeme) (kind : Kind) → piece_at spot.fresh text ≡ Some Spelling
      → BeginsWith text front next → Reads front next (Ok lexeme) → IsKind names lexeme kind
      → token ≡ Some (record { kind = kind; place = spot.place }) → beyond ≡ along spot (length front)
      → Step names text spot token next beyond

-- over any number of pieces, with their tokens
pub data Passes (names : List (List ℕ)) : List ℕ → Spot → List Token → List ℕ → Spot → Type 0 where
  here : {text : List ℕ} {spot : Spot} → Passes names text spot [] text spot
  past :
      {text next rest : List ℕ} {spot beyond end : Spot} {tokens : List Token} → Step names text spot None next beyond
      → Passes names next beyond tokens rest end → Passes names text spot tokens rest end
  onward :
      {text next rest : List ℕ} {spot beyond end : Spot} {token : Token} {tokens : List Token}
      → Step names text spot (Some token) next beyond → Passes names next beyond tokens rest end
      → Passes names text spot (token ∷ tokens) rest end

-- ---- faults

-- a fault stands at a spot
pub data StandsAt (text : List ℕ) (spot : Spot) (kind : FaultKind) : Type 0 where
  malformed :
      (front next : List ℕ) → piece_at spot.fresh text ≡ Some Spelling → BeginsWith text front next
      → Reads front next (Err kind) → StandsAt text spot kind
  open_literal :
      piece_at spot.fresh text ≡ Some Spelling → begins is_quote text ≡ true → BeginsWithNone text → kind ≡ OpenLiteral
      → StandsAt text spot kind
  bad_byte :
      piece_at spot.fresh text ≡ Some Spelling → begins is_quote text ≡ false → BeginsWithNone text → kind ≡ BadByte
      → StandsAt text spot kind
  open_comment :
      piece_at spot.fresh text ≡ Some BlockComment → ((n : ℕ) → IsBlockComment text n → ⊥) → kind ≡ OpenComment
      → StandsAt text spot kind
  bad_marker : piece_at spot.fresh text ≡ Some MarkerLine → marker_of (line_of text) ≡ None → kind ≡ BadMarker → StandsAt text spot kind

-- a token begins at a spot
pub record TokenBegins (text : List ℕ) (spot : Spot) : Type 0 where
  pub front : List ℕ
  pub next : List ℕ
  pub lexeme : Lexeme
  pub piece : piece_at spot.fresh text ≡ Some Spelling
  pub spelled : BeginsWith text front next
  pub reading : Reads front next (Ok lexeme)

abbrev pub end_token : Spot → Token
end_token spot = record { kind = kinds.End; place = spot.place }

-- what a text is, under these numbers of names, where it may have this many tokens beside the end: its tokens, or its first
-- fault, or the fault that there are more tokens before that
pub data IsAnswer (names : List (List ℕ)) (text : List ℕ) (from : Spot) (room : ℕ) (answer : Result (List Token) Fault) : Type 0 where
  scanned :
      (tokens : List Token) (end : Spot) → Passes names text from tokens [] end → length tokens ≤ room
      → answer ≡ Ok (tokens ++ end_token end ∷ []) → IsAnswer names text from room answer
  refused :
      (tokens : List Token) (rest : List ℕ) (end : Spot) (kind : FaultKind) → Passes names text from tokens rest end
      → length tokens ≤ room → StandsAt rest end kind → answer ≡ Err (record { kind = kind; place = end.place })
      → IsAnswer names text from room answer
  past_room :
      (tokens : List Token) (rest : List ℕ) (end : Spot) → Passes names text from tokens rest end
      → length tokens ≡ room → TokenBegins rest end → answer ≡ Err (record { kind = TooManyTokens; place = end.place })
      → IsAnswer names text from room answer
