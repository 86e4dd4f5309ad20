-- The units of texts are written as a text can have them (C90 6.1.3, 6.3, 6.6), and the names that
-- texts add are bytes (C90 6.1.2, 6.1.4).
use Rattle.std.specs.Prelude.{ℕ, ◌<◌, List, Ok, All}
use Rattle.sp_tree.specs.declared.token.Token.{Token}
use Rattle.sp_parse_trees.specs.Syntax.{External}
use Rattle.sp_lexer.specs.declared.spot.Spot.{Spot}
use Rattle.sp_lexer.specs.Scan.{IsAnswer}
use Rattle.sp_lexer.specs.Named.{CollectsAll}
use Rattle.sp_parse_trees.specs.Places.{SpellsUnit}
use Rattle.sp_parse_trees.specs.Levels.{IsLevelledUnit}
use Rattle.sp_check_written_laws.specs.Statements.{AreWrittenExternals}

-- a levelled unit that the tokens of a text of bytes begin with
abbrev pub UnitsAreWritten : Type 0
UnitsAreWritten = (names : List (List ℕ)) (text : List ℕ) (from : Spot) (room : ℕ) (tokens rest : List Token) (es : List External)
    → All (λ b. b < 256) text → IsAnswer names text from room (Ok tokens) → SpellsUnit tokens es rest → IsLevelledUnit es
    → AreWrittenExternals es

-- names and literals of bytes
abbrev pub AreByteNames : List (List ℕ) → Type 0
AreByteNames names = All (λ bytes. All (λ b. b < 256) bytes) names

-- what names a text of bytes is scanned with, and what names there are then
abbrev pub NamesAreBytes : Type 0
NamesAreBytes = (text : List ℕ) (from : Spot) (before after : List (List ℕ)) → All (λ b. b < 256) text
    → AreByteNames before → CollectsAll text from before after → AreByteNames after
