-- What the code's sorts of tokens and its words stand for in the grammar.
use Rattle.std.specs.Prelude.{ℕ, ◌==◌, Bool, true, false, Option, Some, None}
use Rattle.std.specs.Int.RustNames.{bit_and}
use Rattle.sp_parse_tokens.specs.declared.sorts.Mark.{Mark}
use Rattle.sp_parse_tokens.specs.declared.sorts.Mark.TheVariants as marks
use Rattle.sp_parse_tokens.specs.declared.sorts.Sort.{Sort}
use Rattle.sp_parse_tokens.specs.declared.sorts.Sort.TheVariants as sorts
use Rattle.sp_parse_tokens.specs.declared.sorts.TypeWord.{TypeWord}
use Rattle.sp_parse_tokens.specs.declared.sorts.TypeWord.TheVariants as words
use Rattle.sp_parse_tokens.specs.declared.words.Length.{Length}
use Rattle.sp_parse_tokens.specs.declared.words.Length.TheVariants as lengths
use Rattle.sp_parse_tokens.specs.declared.words.Base.{Base}
use Rattle.sp_parse_tokens.specs.declared.words.Base.TheVariants as bases
use Rattle.sp_parse_tokens.specs.declared.words.Bit.{Bit as CodeBit}
use Rattle.sp_parse_tokens.specs.declared.words.Bit.TheVariants as bits
use Rattle.sp_parse_grammar.specs.CTokens as tokens
use Rattle.sp_parse_grammar.specs.CTokens.{Seen}

abbrev pub mark_seen : Mark → tokens.Mark
mark_seen marks.OpenParen = tokens.opening
mark_seen marks.CloseParen = tokens.closing
mark_seen marks.OpenBracket = tokens.bracket
mark_seen marks.CloseBracket = tokens.unbracket
mark_seen marks.OpenBrace = tokens.brace
mark_seen marks.CloseBrace = tokens.unbrace
mark_seen marks.Semicolon = tokens.semicolon
mark_seen marks.Colon = tokens.colon
mark_seen marks.Question = tokens.question
mark_seen marks.Ellipsis = tokens.ellipsis
mark_seen marks.Comma = tokens.comma
mark_seen marks.Equal = tokens.equal
mark_seen marks.Member = tokens.member
mark_seen marks.Step = tokens.step
mark_seen marks.Star = tokens.star
mark_seen marks.Ampersand = tokens.ampersand
mark_seen marks.Additive = tokens.additive
mark_seen marks.Tilde = tokens.tilde
mark_seen marks.Sizeof = tokens.sizeof
mark_seen marks.If = tokens.if_word
mark_seen marks.Else = tokens.else_word
mark_seen marks.Switch = tokens.switch
mark_seen marks.Case = tokens.case
mark_seen marks.Default = tokens.default
mark_seen marks.While = tokens.while
mark_seen marks.Do = tokens.do_word
mark_seen marks.For = tokens.for
mark_seen marks.Goto = tokens.goto
mark_seen marks.Continue = tokens.continue
mark_seen marks.Break = tokens.break
mark_seen marks.Return = tokens.return
mark_seen marks.Struct = tokens.struct
mark_seen marks.Enum = tokens.enum
mark_seen marks.Typedef = tokens.typedef
mark_seen marks.End = tokens.end

abbrev pub word_seen : TypeWord → tokens.TypeWord
word_seen words.Void = tokens.void
word_seen words.Char = tokens.char
word_seen words.Short = tokens.short
word_seen words.Int = tokens.int
word_seen words.Long = tokens.long
word_seen words.Float = tokens.float
word_seen words.Double = tokens.double
word_seen words.Sign = tokens.sign

abbrev pub sort_seen : Sort → tokens.Sort
sort_seen (sorts.Name n) = tokens.name n
sort_seen (sorts.NamedType n) = tokens.named_type n
sort_seen sorts.Constant = tokens.constant
sort_seen sorts.Text = tokens.text
sort_seen sorts.Storage = tokens.storage
sort_seen sorts.Qualifier = tokens.qualifier
sort_seen sorts.Assigning = tokens.assigning
sort_seen (sorts.Basic w) = tokens.basic (word_seen w)
sort_seen (sorts.Binary k) = tokens.binary k
sort_seen (sorts.Mark m) = tokens.mark (mark_seen m)

-- ---- the words of a list of specifiers, as bits

abbrev pub has : ℕ → ℕ → Bool
has words bit = bit_and words bit == bit

abbrev pub length_by : Bool → Bool → tokens.Length
length_by true long = tokens.short_length
length_by false true = tokens.long_length
length_by false false = tokens.plain_length

abbrev pub base_by : Bool → Bool → Bool → Bool → tokens.Base
base_by true int double whole = tokens.char_base
base_by false true double whole = tokens.int_base
base_by false false true whole = tokens.double_base
base_by false false false true = tokens.whole_base
base_by false false false false = tokens.no_base

abbrev pub length_seen : Length → tokens.Length
length_seen lengths.Plain = tokens.plain_length
length_seen lengths.Short = tokens.short_length
length_seen lengths.Long = tokens.long_length

abbrev pub base_seen : Base → tokens.Base
base_seen bases.Nothing = tokens.no_base
base_seen bases.Char = tokens.char_base
base_seen bases.Int = tokens.int_base
base_seen bases.Double = tokens.double_base
base_seen bases.Whole = tokens.whole_base

abbrev pub seen_by : ℕ → Seen
seen_by w = record { stored = has w 1; signed = has w 2; length = length_by (has w 4) (has w 8); base = base_by (has w 16) (has w 32) (has w 64) (has w 128) }

-- one bit of the words
pub data Bit : Type 0 where
  signed_bit short_bit long_bit char_bit int_bit double_bit whole_bit : Bit

abbrev pub number_of_bit : Bit → ℕ
number_of_bit signed_bit = 2
number_of_bit short_bit = 4
number_of_bit long_bit = 8
number_of_bit char_bit = 16
number_of_bit int_bit = 32
number_of_bit double_bit = 64
number_of_bit whole_bit = 128

abbrev pub bit_seen : CodeBit → Bit
bit_seen bits.Signed = signed_bit
bit_seen bits.Short = short_bit
bit_seen bits.Long = long_bit
bit_seen bits.Char = char_bit
bit_seen bits.Int = int_bit
bit_seen bits.Double = double_bit
bit_seen bits.Whole = whole_bit

-- the bit that a word of a type adds, where it may stand beside the others
abbrev pub beside : tokens.TypeWord → Bool → tokens.Length → tokens.Base → Option Bit
beside tokens.void false tokens.plain_length tokens.no_base = Some whole_bit
beside tokens.float false tokens.plain_length tokens.no_base = Some whole_bit
beside tokens.char signed tokens.plain_length tokens.no_base = Some char_bit
beside tokens.short signed tokens.plain_length tokens.no_base = Some short_bit
beside tokens.short signed tokens.plain_length tokens.int_base = Some short_bit
beside tokens.long signed tokens.plain_length tokens.no_base = Some long_bit
beside tokens.long signed tokens.plain_length tokens.int_base = Some long_bit
beside tokens.long false tokens.plain_length tokens.double_base = Some long_bit
beside tokens.int signed length tokens.no_base = Some int_bit
beside tokens.double false tokens.plain_length tokens.no_base = Some double_bit
beside tokens.double false tokens.long_length tokens.no_base = Some double_bit
beside tokens.sign false length tokens.no_base = Some signed_bit
beside tokens.sign false tokens.plain_length tokens.char_base = Some signed_bit
beside tokens.sign false length tokens.int_base = Some signed_bit
beside _ _ _ _ = None
