-- Which names a text adds, and in which order: those of its identifiers, of its string literals, and of the marker lines that
-- name the line after them, as they stand in the text.
use Rattle.std.specs.Prelude.{◌≡◌, ℕ, List, [], slice_get, Some, Option}
use Rattle.sp_tree.specs.declared.token.Token.{Token}
use Rattle.sp_tree.specs.declared.token.Kind.{Kind}
use Rattle.sp_tree.specs.declared.token.Kind.TheVariants as kinds
use Rattle.sp_tree.specs.Names.{with_name}
use Rattle.sp_lexer.specs.declared.spot.Spot.{Spot}
use Rattle.sp_lexer.specs.Scan.{Lexeme, identifier, keyword, integer, character, string, punctuator, Step, over_blank, over_line_comment, over_block_comment, over_pragma_line, over_marker_line, over_last_line, over_spelling}

-- the names after a lexeme: an identifier adds its bytes, and a string the bytes that it stands for
abbrev pub with_lexeme : List (List ℕ) → Lexeme → List (List ℕ)
with_lexeme names (identifier bytes) = with_name names bytes
with_lexeme names (keyword k) = names
with_lexeme names (integer value) = names
with_lexeme names (character value) = names
with_lexeme names (string bytes) = with_name names bytes
with_lexeme names (punctuator punct) = names

-- the names after a piece: a marker line that has a line after it adds the name that it gives that line
abbrev pub with_piece : List (List ℕ) → {names : List (List ℕ)} {text : List ℕ} {spot : Spot} {token : Option Token} {next : List ℕ} {beyond : Spot} → Step names text spot token next beyond → List (List ℕ)
with_piece old (over_blank b p w t y) = old
with_piece old (over_line_comment p t w y) = old
with_piece old (over_block_comment n p h t w y) = old
with_piece old (over_pragma_line p m t w y) = old
with_piece old (over_marker_line line name n p m s t w y) = with_name old name
with_piece old (over_last_line line name p m t r w y) = old
with_piece old (over_spelling front lexeme kind p h r i t y) = with_lexeme old lexeme

-- from a spot over one piece, and from the names before it to those after it
pub record Adds (old new : List (List ℕ)) (text : List ℕ) (spot : Spot) (next : List ℕ) (beyond : Spot) : Type 0 where
  pub token : Option Token
  pub step : Step new text spot token next beyond
  pub names_are : new ≡ with_piece old step

-- that from where a text begins over any number of pieces
pub data Collects (text : List ℕ) (from : Spot) (old : List (List ℕ)) : List ℕ → Spot → List (List ℕ) → Type 0 where
  none_yet : Collects text from old text from old
  one_more :
      {rest next : List ℕ} {spot beyond : Spot} {names new : List (List ℕ)} → Collects text from old rest spot names
      → Adds names new rest spot next beyond → Collects text from old next beyond new

-- that over the whole text
abbrev pub CollectsAll : List ℕ → Spot → List (List ℕ) → List (List ℕ) → Type 0
CollectsAll text from old new = (end : Spot) × Collects text from old [] end new

-- these bytes have the number, and were added last where they weren't held before
abbrev pub AddsName : List (List ℕ) → List (List ℕ) → ℕ → Type 0
AddsName old new n = (bytes : List ℕ) × (slice_get new n ≡ Some bytes) × (new ≡ with_name old bytes)

-- the names after a token of this kind
abbrev pub AddsKind : List (List ℕ) → List (List ℕ) → Kind → Type 0
AddsKind old new (kinds.Name n) = AddsName old new n
AddsKind old new (kinds.Word word) = new ≡ old
AddsKind old new (kinds.Number value) = new ≡ old
AddsKind old new (kinds.Char value) = new ≡ old
AddsKind old new (kinds.Text n) = AddsName old new n
AddsKind old new (kinds.Mark punct) = new ≡ old
AddsKind old new kinds.End = new ≡ old
