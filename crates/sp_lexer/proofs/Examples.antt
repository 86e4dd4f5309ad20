-- Small texts, on which the definitions are computed.
use Rattle.std.proofs.Common.{◌≡◌, true, false, Some, None, Ok, Err, refl}
use Rattle.std.specs.Prelude.{codes, negsuc}
use Rattle.sp_tree.specs.declared.token.Keyword.TheVariants.{While}
use Rattle.sp_tree.specs.declared.token.Punct.TheVariants.{ShiftLeftAssign}
use Rattle.sp_tree.specs.declared.fault.FaultKind.TheVariants.{MalformedLiteral, LiteralPast64Bits, FloatingType, InlineAssembly, GnuWord, LongLong}
use Rattle.sp_lexer.specs.declared.spot.Piece.TheVariants.{BlockComment, MarkerLine, Spelling}
use Rattle.sp_lexer.specs.Bytes.{is_between, is_digit, is_octal, is_hexadecimal, is_letter, is_word_byte, is_blank, is_gap, is_sign, is_exponent_letter}
use Rattle.sp_lexer.specs.Spelling.{is_run, is_literal}
use Rattle.sp_lexer.specs.Numerals.{number_of, digit_value, is_floating_letter, is_u, is_l, is_x, is_digit_in}
use Rattle.sp_lexer.specs.Literals.{byte_at, signed_char}
use Rattle.sp_lexer.specs.Words.{keyword_of, assembly_words, gnu_words, is_gnu_word, refused_word}
use Rattle.sp_lexer.specs.Marks.{marks, mark_among}
use Rattle.sp_lexer.specs.Markers.{named, marker_of, marker_after}
use Rattle.sp_lexer.specs.Scan.{piece_at}

-- ---- number runs

octal : number_of (codes "017") ≡ Ok (record { value = 15; decimal = false; unsigned = false; long = false })
unfolding is_digit is_between is_octal is_digit_in is_x digit_value is_u is_l
octal = refl

hexadecimal : number_of (codes "0xfFuL") ≡ Ok (record { value = 255; decimal = false; unsigned = true; long = true })
unfolding is_digit is_between is_hexadecimal is_digit_in is_x digit_value is_u is_l is_exponent_letter
hexadecimal = refl

no_octal : number_of (codes "08") ≡ Err MalformedLiteral
unfolding is_digit is_between is_octal is_digit_in is_x is_u is_l is_exponent_letter
no_octal = refl

floating : number_of (codes "08.e-1f") ≡ Err FloatingType
unfolding is_digit is_between is_exponent_letter is_sign is_floating_letter
floating = refl

long_long : number_of (codes "99999999999999999999LLu") ≡ Err LongLong
unfolding is_digit is_between is_digit_in is_x is_u is_l is_exponent_letter
long_long = refl

past_64_bits : number_of (codes "18446744073709551616") ≡ Err LiteralPast64Bits
unfolding is_digit is_between is_digit_in is_x digit_value is_u is_l is_exponent_letter
past_64_bits = refl

-- a sign goes on a run only after e or E
sign_in_run : is_run (codes "0x1e+1") ≡ true
unfolding is_digit is_between is_letter is_word_byte is_sign is_exponent_letter
sign_in_run = refl

sign_after_run : is_run (codes "1f+1") ≡ false
unfolding is_digit is_between is_letter is_word_byte is_sign is_exponent_letter
sign_after_run = refl

-- ---- literals

kept_quote : is_literal 34 (codes "\"a\\\"b\"") ≡ true
kept_quote = refl

two_literals : is_literal 34 (codes "\"a\"b\"") ≡ false
two_literals = refl

-- three octal digits at most
three_digits : byte_at (codes "\\1234") ≡ Some (83, codes "4")
unfolding is_between is_octal digit_value
three_digits = refl

no_byte : byte_at (codes "\\400") ≡ None
unfolding is_between is_octal digit_value
no_byte = refl

sign : signed_char 255 ≡ negsuc 0
unfolding signed_char
sign = refl

-- ---- words and marks

while_word : keyword_of (codes "while") ≡ Some While
unfolding keyword_of
while_word = refl

assembly : refused_word (codes "__asm__") ≡ Some InlineAssembly
unfolding refused_word assembly_words
assembly = refl

built_in : refused_word (codes "__builtin_") ≡ Some GnuWord
unfolding refused_word assembly_words is_gnu_word gnu_words
built_in = refl

longest_mark : mark_among (codes "<<=1") marks ≡ Some ShiftLeftAssign
unfolding marks
longest_mark = refl

-- ---- pieces

flags : marker_of (codes "# 7 \"a\\\"b\" 1 3") ≡ Some (named 7 (codes "a\\\"b"))
unfolding marker_after is_gap is_blank is_between is_digit digit_value
flags = refl

no_flags : marker_of (codes "#line 7 \"a\" 1") ≡ None
unfolding marker_after is_gap is_blank is_between is_digit digit_value
no_flags = refl

comment_first : piece_at true (codes "/*x") ≡ Some BlockComment
unfolding piece_at is_blank is_between
comment_first = refl

marker_on_fresh_line : piece_at true (codes "#") ≡ Some MarkerLine
unfolding piece_at is_blank is_between
marker_on_fresh_line = refl

no_marker_elsewhere : piece_at false (codes "#") ≡ Some Spelling
unfolding piece_at is_blank is_between
no_marker_elsewhere = refl
