-- The operators and punctuators, and the longest one that a text begins with.
use Rattle.std.specs.Prelude.{ℕ, ◌==◌, nat_eq, List, [], ◌∷◌, Option}
use Rattle.std.specs.List.{find, filter, starts_with}
use Rattle.sp_tree.specs.declared.token.Punct.{Punct}
use Rattle.sp_tree.specs.declared.token.Punct.TheVariants.{LeftBracket, RightBracket, LeftParenthesis, RightParenthesis, LeftBrace, RightBrace, Dot, Arrow, Increment, Decrement, Ampersand, Star, Plus, Minus, Tilde, Exclamation, Slash, Percent, ShiftLeft, ShiftRight, Less, Greater, LessEqual, GreaterEqual, EqualEqual, NotEqual, Caret, Bar, AndAnd, OrOr, Question, Colon, Semicolon, Ellipsis, Assign, StarAssign, SlashAssign, PercentAssign, PlusAssign, MinusAssign, ShiftLeftAssign, ShiftRightAssign, AmpersandAssign, CaretAssign, BarAssign, Comma}
use Rattle.sp_tree.specs.Spellings.{mark_spelling}
use Rattle.sp_lexer.specs.Bytes.{begins}

-- the longest first
unfoldable pub marks : List Punct
marks =
    ShiftLeftAssign ∷ ShiftRightAssign ∷ Ellipsis
    ∷ Arrow ∷ Increment ∷ Decrement ∷ ShiftLeft ∷ ShiftRight ∷ LessEqual ∷ GreaterEqual ∷ EqualEqual ∷ NotEqual ∷ AndAnd ∷ OrOr
    ∷ StarAssign ∷ SlashAssign ∷ PercentAssign ∷ PlusAssign ∷ MinusAssign ∷ AmpersandAssign ∷ CaretAssign ∷ BarAssign
    ∷ LeftBracket ∷ RightBracket ∷ LeftParenthesis ∷ RightParenthesis ∷ LeftBrace ∷ RightBrace ∷ Dot ∷ Ampersand ∷ Star ∷ Plus ∷ Minus
    ∷ Tilde ∷ Exclamation ∷ Slash ∷ Percent ∷ Less ∷ Greater ∷ Caret ∷ Bar ∷ Question ∷ Colon ∷ Semicolon ∷ Assign ∷ Comma ∷ []

-- those that begin with a byte
unfoldable pub marks_from : ℕ → List Punct
marks_from first = filter (λ mark. begins (λ b. b == first) (mark_spelling mark)) marks

-- the first of them that a text begins with
abbrev pub mark_among : List ℕ → List Punct → Option Punct
mark_among text from = find (λ mark. starts_with nat_eq text (mark_spelling mark)) from
