-- The sort of each kind of token, by which the grammar chooses (C90 6.1), and the tokens of a text as the grammar takes them.
use Rattle.std.specs.Prelude.{◌≡◌, List, map, true, false, refl}
use Rattle.sp_tree.specs.declared.fault.Place.{Place}
use Rattle.sp_tree.specs.declared.token.Keyword.{Keyword}
use Rattle.sp_tree.specs.declared.token.Keyword.TheVariants as words
use Rattle.sp_tree.specs.declared.token.Kind.{Kind}
use Rattle.sp_tree.specs.declared.token.Kind.TheVariants as kinds
use Rattle.sp_tree.specs.declared.token.Number.{Number}
use Rattle.sp_tree.specs.declared.token.Punct.{Punct}
use Rattle.sp_tree.specs.declared.token.Punct.TheVariants as puncts
use Rattle.sp_tree.specs.declared.token.Token.{Token}
use Rattle.sp_parse_grammar.specs.CTokens as tokens
use Rattle.sp_parse_grammar.specs.CTokens.{Mark, Sort}

abbrev pub word_sort : Keyword → Sort
word_sort words.Auto = tokens.storage
word_sort words.Extern = tokens.storage
word_sort words.Register = tokens.storage
word_sort words.Static = tokens.storage
word_sort words.Const = tokens.qualifier
word_sort words.Volatile = tokens.qualifier
word_sort words.Void = tokens.basic tokens.void
word_sort words.Char = tokens.basic tokens.char
word_sort words.Short = tokens.basic tokens.short
word_sort words.Int = tokens.basic tokens.int
word_sort words.Long = tokens.basic tokens.long
word_sort words.Float = tokens.basic tokens.float
word_sort words.Double = tokens.basic tokens.double
word_sort words.Signed = tokens.basic tokens.sign
word_sort words.Unsigned = tokens.basic tokens.sign
word_sort words.Struct = tokens.mark tokens.struct
word_sort words.Union = tokens.mark tokens.struct
word_sort words.Enum = tokens.mark tokens.enum
word_sort words.Typedef = tokens.mark tokens.typedef
word_sort words.Sizeof = tokens.mark tokens.sizeof
word_sort words.If = tokens.mark tokens.if_word
word_sort words.Else = tokens.mark tokens.else_word
word_sort words.Switch = tokens.mark tokens.switch
word_sort words.Case = tokens.mark tokens.case
word_sort words.Default = tokens.mark tokens.default
word_sort words.While = tokens.mark tokens.while
word_sort words.Do = tokens.mark tokens.do_word
word_sort words.For = tokens.mark tokens.for
word_sort words.Goto = tokens.mark tokens.goto
word_sort words.Continue = tokens.mark tokens.continue
word_sort words.Break = tokens.mark tokens.break
word_sort words.Return = tokens.mark tokens.return

-- a binary operator with its level: 1 for products up to 10 for the logical or
abbrev pub punct_sort : Punct → Sort
punct_sort puncts.LeftBracket = tokens.mark tokens.bracket
punct_sort puncts.RightBracket = tokens.mark tokens.unbracket
punct_sort puncts.LeftParenthesis = tokens.mark tokens.opening
punct_sort puncts.RightParenthesis = tokens.mark tokens.closing
punct_sort puncts.LeftBrace = tokens.mark tokens.brace
punct_sort puncts.RightBrace = tokens.mark tokens.unbrace
punct_sort puncts.Dot = tokens.mark tokens.member
punct_sort puncts.Arrow = tokens.mark tokens.member
punct_sort puncts.Increment = tokens.mark tokens.step
punct_sort puncts.Decrement = tokens.mark tokens.step
punct_sort puncts.Ampersand = tokens.mark tokens.ampersand
punct_sort puncts.Star = tokens.mark tokens.star
punct_sort puncts.Plus = tokens.mark tokens.additive
punct_sort puncts.Minus = tokens.mark tokens.additive
punct_sort puncts.Tilde = tokens.mark tokens.tilde
punct_sort puncts.Exclamation = tokens.mark tokens.tilde
punct_sort puncts.Slash = tokens.binary 1
punct_sort puncts.Percent = tokens.binary 1
punct_sort puncts.ShiftLeft = tokens.binary 3
punct_sort puncts.ShiftRight = tokens.binary 3
punct_sort puncts.Less = tokens.binary 4
punct_sort puncts.Greater = tokens.binary 4
punct_sort puncts.LessEqual = tokens.binary 4
punct_sort puncts.GreaterEqual = tokens.binary 4
punct_sort puncts.EqualEqual = tokens.binary 5
punct_sort puncts.NotEqual = tokens.binary 5
punct_sort puncts.Caret = tokens.binary 7
punct_sort puncts.Bar = tokens.binary 8
punct_sort puncts.AndAnd = tokens.binary 9
punct_sort puncts.OrOr = tokens.binary 10
punct_sort puncts.Question = tokens.mark tokens.question
punct_sort puncts.Colon = tokens.mark tokens.colon
punct_sort puncts.Semicolon = tokens.mark tokens.semicolon
punct_sort puncts.Ellipsis = tokens.mark tokens.ellipsis
punct_sort puncts.Assign = tokens.mark tokens.equal
punct_sort puncts.StarAssign = tokens.assigning
punct_sort puncts.SlashAssign = tokens.assigning
punct_sort puncts.PercentAssign = tokens.assigning
punct_sort puncts.PlusAssign = tokens.assigning
punct_sort puncts.MinusAssign = tokens.assigning
punct_sort puncts.ShiftLeftAssign = tokens.assigning
punct_sort puncts.ShiftRightAssign = tokens.assigning
punct_sort puncts.AmpersandAssign = tokens.assigning
punct_sort puncts.CaretAssign = tokens.assigning
punct_sort puncts.BarAssign = tokens.assigning
punct_sort puncts.Comma = tokens.mark tokens.comma

abbrev pub sort_of : Kind → Sort
sort_of (kinds.Name n) = tokens.name n
sort_of (kinds.Word k) = word_sort k
sort_of (kinds.Number n) = tokens.constant
sort_of (kinds.Char z) = tokens.constant
sort_of (kinds.Text n) = tokens.text
sort_of (kinds.Mark p) = punct_sort p
sort_of kinds.End = tokens.mark tokens.end

-- a token of the grammar, and the tokens of a text
abbrev pub Terminal : Type 0
Terminal = tokens.Token Token (λ x. sort_of x.kind)

abbrev pub terminal : Token → Terminal
terminal x = record { sort = sort_of x.kind; what = x; right = refl }

abbrev pub c_tokens : List Token → List Terminal
c_tokens xs = map terminal xs

-- ---- tokens that no text has, of each sort by which a text that was begun is completed

abbrev pub nowhere : Place
nowhere = record { name = 0; line = 0; column = 0 }

abbrev pub spare : Kind → Token
spare k = record { kind = k; place = nowhere }

abbrev pub spare_number : Number
spare_number = record { value = 0; decimal = true; unsigned = false; long = false }

abbrev pub mark_kind : Mark → Kind
mark_kind tokens.opening = kinds.Mark puncts.LeftParenthesis
mark_kind tokens.closing = kinds.Mark puncts.RightParenthesis
mark_kind tokens.bracket = kinds.Mark puncts.LeftBracket
mark_kind tokens.unbracket = kinds.Mark puncts.RightBracket
mark_kind tokens.brace = kinds.Mark puncts.LeftBrace
mark_kind tokens.unbrace = kinds.Mark puncts.RightBrace
mark_kind tokens.semicolon = kinds.Mark puncts.Semicolon
mark_kind tokens.colon = kinds.Mark puncts.Colon
mark_kind tokens.question = kinds.Mark puncts.Question
mark_kind tokens.ellipsis = kinds.Mark puncts.Ellipsis
mark_kind tokens.comma = kinds.Mark puncts.Comma
mark_kind tokens.equal = kinds.Mark puncts.Assign
mark_kind tokens.member = kinds.Mark puncts.Dot
mark_kind tokens.step = kinds.Mark puncts.Increment
mark_kind tokens.star = kinds.Mark puncts.Star
mark_kind tokens.ampersand = kinds.Mark puncts.Ampersand
mark_kind tokens.additive = kinds.Mark puncts.Plus
mark_kind tokens.tilde = kinds.Mark puncts.Tilde
mark_kind tokens.sizeof = kinds.Word words.Sizeof
mark_kind tokens.if_word = kinds.Word words.If
mark_kind tokens.else_word = kinds.Word words.Else
mark_kind tokens.switch = kinds.Word words.Switch
mark_kind tokens.case = kinds.Word words.Case
mark_kind tokens.default = kinds.Word words.Default
mark_kind tokens.while = kinds.Word words.While
mark_kind tokens.do_word = kinds.Word words.Do
mark_kind tokens.for = kinds.Word words.For
mark_kind tokens.goto = kinds.Word words.Goto
mark_kind tokens.continue = kinds.Word words.Continue
mark_kind tokens.break = kinds.Word words.Break
mark_kind tokens.return = kinds.Word words.Return
mark_kind tokens.struct = kinds.Word words.Struct
mark_kind tokens.enum = kinds.Word words.Enum
mark_kind tokens.typedef = kinds.Word words.Typedef
mark_kind tokens.end = kinds.End

abbrev pub mark_sort : (m : Mark) → sort_of (mark_kind m) ≡ tokens.mark m
mark_sort tokens.opening = refl
mark_sort tokens.closing = refl
mark_sort tokens.bracket = refl
mark_sort tokens.unbracket = refl
mark_sort tokens.brace = refl
mark_sort tokens.unbrace = refl
mark_sort tokens.semicolon = refl
mark_sort tokens.colon = refl
mark_sort tokens.question = refl
mark_sort tokens.ellipsis = refl
mark_sort tokens.comma = refl
mark_sort tokens.equal = refl
mark_sort tokens.member = refl
mark_sort tokens.step = refl
mark_sort tokens.star = refl
mark_sort tokens.ampersand = refl
mark_sort tokens.additive = refl
mark_sort tokens.tilde = refl
mark_sort tokens.sizeof = refl
mark_sort tokens.if_word = refl
mark_sort tokens.else_word = refl
mark_sort tokens.switch = refl
mark_sort tokens.case = refl
mark_sort tokens.default = refl
mark_sort tokens.while = refl
mark_sort tokens.do_word = refl
mark_sort tokens.for = refl
mark_sort tokens.goto = refl
mark_sort tokens.continue = refl
mark_sort tokens.break = refl
mark_sort tokens.return = refl
mark_sort tokens.struct = refl
mark_sort tokens.enum = refl
mark_sort tokens.typedef = refl
mark_sort tokens.end = refl
