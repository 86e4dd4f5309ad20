-- What the functions that pass one piece answer.
use Rattle.std.specs.Prelude.{◌≡◌, ℕ, ◌+◌, ◌^◌, ◌<◌, ◌≤◌, true, false, List, length, drop, Option, Some, None, Result, Ok, Err}
use Rattle.sp_tree.specs.declared.fault.Place.{Place}
use Rattle.sp_tree.specs.declared.fault.FaultKind.{FaultKind}
use Rattle.sp_tree.specs.declared.fault.FaultKind.TheVariants.{BadByte, OpenLiteral}
use Rattle.sp_tree.specs.declared.token.Token.{Token}
use Rattle.sp_tree.specs.declared.token.Kind.{Kind}
use Rattle.sp_tree.specs.Names.{AreDistinct, Extends}
use Rattle.sp_lexer.specs.declared.stop.Stop.{Stop}
use Rattle.sp_lexer.specs.declared.stop.Stop.TheVariants as stops
use Rattle.sp_lexer.specs.declared.spot.Spot.{Spot}
use Rattle.sp_lexer.specs.Bytes.{is_quote, begins}
use Rattle.sp_lexer.specs.Spelling.{BeginsWith, BeginsWithNone}
use Rattle.sp_lexer.specs.Scan.{Lexeme, IsKind, Reads, StandsAt}

-- at most one name more, and the old ones as they were
pub record Grows (old new : List (List ℕ)) : Type 0 where
  pub kept : Extends old new
  pub distinct : AreDistinct old → AreDistinct new
  pub count : length new ≤ length old + 1

-- the kind of a lexeme's token, or the lexeme's fault
abbrev pub KindOf : List (List ℕ) → List ℕ → List ℕ → Result Kind Stop → Type 0
KindOf names front next (Ok kind) = (lexeme : Lexeme) × Reads front next (Ok lexeme) × IsKind names lexeme kind
KindOf names front next (Err (stops.Fault kind)) = Reads front next (Err kind)
KindOf names front next (Err stops.NoMemory) = Unit {0}

-- a spelling of n bytes begins a text, and has a token of this kind
pub record TokenAt (names : List (List ℕ)) (text : List ℕ) (kind : Kind) (n : ℕ) : Type 0 where
  pub lexeme : Lexeme
  pub next : List ℕ
  pub front : List ℕ
  pub spelled : BeginsWith text front next
  pub reading : Reads front next (Ok lexeme)
  pub kind_is : IsKind names lexeme kind
  pub rest : next ≡ drop n text
  pub size : length front ≡ n
  pub some : 0 < n
  pub within : n ≤ length text

-- no token begins a text that has something other than blanks, comments and marker lines there
pub data IsFaulty (text : List ℕ) (kind : FaultKind) : Type 0 where
  bad_spelling : (front next : List ℕ) → BeginsWith text front next → Reads front next (Err kind) → IsFaulty text kind
  no_quote : begins is_quote text ≡ true → BeginsWithNone text → kind ≡ OpenLiteral → IsFaulty text kind
  no_spelling : begins is_quote text ≡ false → BeginsWithNone text → kind ≡ BadByte → IsFaulty text kind

abbrev pub IfFaulty : List ℕ → Stop → Type 0
IfFaulty text (stops.Fault kind) = IsFaulty text kind
IfFaulty text stops.NoMemory = Unit {0}

abbrev pub IfStands : List ℕ → Spot → Stop → Type 0
IfStands text spot (stops.Fault kind) = StandsAt text spot kind
IfStands text spot stops.NoMemory = Unit {0}

-- the token of a kind at a place, if there is one
abbrev pub token_of : Option Kind → Place → Option Token
token_of None place = None
token_of (Some kind) place = Some (record { kind = kind; place = place })

-- the text that is left can't take lines and columns past what a number holds
pub record Fits (spot : Spot) (text : List ℕ) : Type 0 where
  pub line : spot.place.line + length text < 2 ^ 33
  pub column : spot.place.column + length text < 2 ^ 33
  pub bytes : length text < 2 ^ 32

-- a piece is passed: less text is left, and it fits
pub record Passed (text next : List ℕ) (beyond : Spot) : Type 0 where
  pub shorter : length next < length text
  pub fits : Fits beyond next
