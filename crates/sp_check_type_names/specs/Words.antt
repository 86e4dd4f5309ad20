-- The types that lists of words name (C90 6.5.2).
--
-- The grammar lets only the lists of 6.5.2 stand, so a type is told by the words that its list has.
use Rattle.std.specs.Prelude.{Bool, true, false, ◌||◌, if◌then◌else◌}
use Rattle.sp_tree.specs.declared.token.Keyword.{Keyword}
use Rattle.sp_tree.specs.declared.token.Keyword.TheVariants as words
use Rattle.sp_parse_trees.specs.Syntax.{Specifiers, no_specifiers, next_specifier, Specifier, basic}
use Rattle.sp_types.specs.declared.ctype.IntKind.{IntKind}
use Rattle.sp_types.specs.declared.ctype.IntKind.TheVariants.{Char, SChar, UChar, Short, UShort, Int, UInt, Long, ULong}
use Rattle.sp_types.specs.declared.ctype.FloatKind.TheVariants.{Float, Double, LongDouble}
use Rattle.sp_types.specs.Types.{CType, void, integer, floating}

-- the words of which these lists are made
abbrev pub same_word : Keyword → Keyword → Bool
same_word words.Void words.Void = true
same_word words.Char words.Char = true
same_word words.Short words.Short = true
same_word words.Long words.Long = true
same_word words.Float words.Float = true
same_word words.Double words.Double = true
same_word words.Signed words.Signed = true
same_word words.Unsigned words.Unsigned = true
same_word _ _ = false

abbrev pub is_word : Keyword → Specifier → Bool
is_word k (basic w) = same_word k w
is_word k s = false

abbrev pub has_word : Keyword → Specifiers → Bool
has_word k no_specifiers = false
has_word k (next_specifier s ss) = is_word k s || has_word k ss

abbrev pub char_kind : Specifiers → IntKind
char_kind ss = if has_word words.Unsigned ss then UChar else if has_word words.Signed ss then SChar else Char

abbrev pub integer_kind : Specifiers → IntKind
integer_kind ss =
    if has_word words.Short ss then (if has_word words.Unsigned ss then UShort else Short)
    else if has_word words.Long ss then (if has_word words.Unsigned ss then ULong else Long)
    else if has_word words.Unsigned ss then UInt
    else Int

abbrev pub words_type : Specifiers → CType
words_type ss =
    if has_word words.Void ss then void
    else if has_word words.Float ss then floating Float
    else if has_word words.Double ss then floating (if has_word words.Long ss then LongDouble else Double)
    else if has_word words.Char ss then integer (char_kind ss)
    else integer (integer_kind ss)
