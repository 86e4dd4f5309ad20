-- Each operator and punctuator: its place among the marks, and what its spelling isn't.
use Rattle.std.proofs.Common.{◌≡◌, ℕ, Bool, List, not, ◌&&◌, slice_get, Some, refl, drop, length, nat_lt, true}
use Rattle.sp_tree.specs.declared.token.Punct.{Punct}
use Rattle.sp_tree.specs.declared.token.Punct.TheVariants.{LeftBracket, RightBracket, LeftParenthesis, RightParenthesis, LeftBrace, RightBrace, Dot, Arrow, Increment, Decrement, Ampersand, Star, Plus, Minus, Tilde, Exclamation, Slash, Percent, ShiftLeft, ShiftRight, Less, Greater, LessEqual, GreaterEqual, EqualEqual, NotEqual, Caret, Bar, AndAnd, OrOr, Question, Colon, Semicolon, Ellipsis, Assign, StarAssign, SlashAssign, PercentAssign, PlusAssign, MinusAssign, ShiftLeftAssign, ShiftRightAssign, AmpersandAssign, CaretAssign, BarAssign, Comma}
use Rattle.sp_tree.specs.Spellings.{mark_spelling}
use Rattle.sp_lexer.specs.Bytes.{is_between, is_digit, is_letter, is_quote, begins}
use Rattle.sp_lexer.specs.Marks.{marks, mark_among}

-- each mark is in the list
pub place_of : (mark : Punct) → (place : ℕ) × (slice_get marks place ≡ Some mark)
unfolding marks
place_of ShiftLeftAssign = (0, refl)
place_of ShiftRightAssign = (1, refl)
place_of Ellipsis = (2, refl)
place_of Arrow = (3, refl)
place_of Increment = (4, refl)
place_of Decrement = (5, refl)
place_of ShiftLeft = (6, refl)
place_of ShiftRight = (7, refl)
place_of LessEqual = (8, refl)
place_of GreaterEqual = (9, refl)
place_of EqualEqual = (10, refl)
place_of NotEqual = (11, refl)
place_of AndAnd = (12, refl)
place_of OrOr = (13, refl)
place_of StarAssign = (14, refl)
place_of SlashAssign = (15, refl)
place_of PercentAssign = (16, refl)
place_of PlusAssign = (17, refl)
place_of MinusAssign = (18, refl)
place_of AmpersandAssign = (19, refl)
place_of CaretAssign = (20, refl)
place_of BarAssign = (21, refl)
place_of LeftBracket = (22, refl)
place_of RightBracket = (23, refl)
place_of LeftParenthesis = (24, refl)
place_of RightParenthesis = (25, refl)
place_of LeftBrace = (26, refl)
place_of RightBrace = (27, refl)
place_of Dot = (28, refl)
place_of Ampersand = (29, refl)
place_of Star = (30, refl)
place_of Plus = (31, refl)
place_of Minus = (32, refl)
place_of Tilde = (33, refl)
place_of Exclamation = (34, refl)
place_of Slash = (35, refl)
place_of Percent = (36, refl)
place_of Less = (37, refl)
place_of Greater = (38, refl)
place_of Caret = (39, refl)
place_of Bar = (40, refl)
place_of Question = (41, refl)
place_of Colon = (42, refl)
place_of Semicolon = (43, refl)
place_of Assign = (44, refl)
place_of Comma = (45, refl)

-- a spelling of at least one byte, that begins neither as a word nor as a literal, and neither its first byte nor its second is a digit
abbrev pub is_plain : List ℕ → Bool
is_plain bytes = nat_lt 0 (length bytes) && not (begins is_letter bytes) && not (begins is_digit bytes) && not (begins is_quote bytes) && not (begins is_digit (drop 1 bytes))

pub plain_mark : (mark : Punct) → is_plain (mark_spelling mark) ≡ true
unfolding is_between is_digit is_letter is_quote
plain_mark ShiftLeftAssign = refl
plain_mark ShiftRightAssign = refl
plain_mark Ellipsis = refl
plain_mark Arrow = refl
plain_mark Increment = refl
plain_mark Decrement = refl
plain_mark ShiftLeft = refl
plain_mark ShiftRight = refl
plain_mark LessEqual = refl
plain_mark GreaterEqual = refl
plain_mark EqualEqual = refl
plain_mark NotEqual = refl
plain_mark AndAnd = refl
plain_mark OrOr = refl
plain_mark StarAssign = refl
plain_mark SlashAssign = refl
plain_mark PercentAssign = refl
plain_mark PlusAssign = refl
plain_mark MinusAssign = refl
plain_mark AmpersandAssign = refl
plain_mark CaretAssign = refl
plain_mark BarAssign = refl
plain_mark LeftBracket = refl
plain_mark RightBracket = refl
plain_mark LeftParenthesis = refl
plain_mark RightParenthesis = refl
plain_mark LeftBrace = refl
plain_mark RightBrace = refl
plain_mark Dot = refl
plain_mark Ampersand = refl
plain_mark Star = refl
plain_mark Plus = refl
plain_mark Minus = refl
plain_mark Tilde = refl
plain_mark Exclamation = refl
plain_mark Slash = refl
plain_mark Percent = refl
plain_mark Less = refl
plain_mark Greater = refl
plain_mark Caret = refl
plain_mark Bar = refl
plain_mark Question = refl
plain_mark Colon = refl
plain_mark Semicolon = refl
plain_mark Assign = refl
plain_mark Comma = refl

-- a spelling is its own longest mark: so two marks are not spelled alike
pub mark_itself : (mark : Punct) → mark_among (mark_spelling mark) marks ≡ Some mark
unfolding marks
mark_itself ShiftLeftAssign = refl
mark_itself ShiftRightAssign = refl
mark_itself Ellipsis = refl
mark_itself Arrow = refl
mark_itself Increment = refl
mark_itself Decrement = refl
mark_itself ShiftLeft = refl
mark_itself ShiftRight = refl
mark_itself LessEqual = refl
mark_itself GreaterEqual = refl
mark_itself EqualEqual = refl
mark_itself NotEqual = refl
mark_itself AndAnd = refl
mark_itself OrOr = refl
mark_itself StarAssign = refl
mark_itself SlashAssign = refl
mark_itself PercentAssign = refl
mark_itself PlusAssign = refl
mark_itself MinusAssign = refl
mark_itself AmpersandAssign = refl
mark_itself CaretAssign = refl
mark_itself BarAssign = refl
mark_itself LeftBracket = refl
mark_itself RightBracket = refl
mark_itself LeftParenthesis = refl
mark_itself RightParenthesis = refl
mark_itself LeftBrace = refl
mark_itself RightBrace = refl
mark_itself Dot = refl
mark_itself Ampersand = refl
mark_itself Star = refl
mark_itself Plus = refl
mark_itself Minus = refl
mark_itself Tilde = refl
mark_itself Exclamation = refl
mark_itself Slash = refl
mark_itself Percent = refl
mark_itself Less = refl
mark_itself Greater = refl
mark_itself Caret = refl
mark_itself Bar = refl
mark_itself Question = refl
mark_itself Colon = refl
mark_itself Semicolon = refl
mark_itself Assign = refl
mark_itself Comma = refl
