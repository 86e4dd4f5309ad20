-- What a word stands for: a keyword, a name, or a refused word.
use Rattle.std.specs.Prelude.{ℕ, Bool, ◌||◌, nat_eq, List, [], ◌∷◌, codes, ◌==◌, Option, Some, None, if◌then◌else◌}
use Rattle.std.specs.List.{find, filter, list_any, starts_with}
use Rattle.std.specs.Str.{bytes_eq}
use Rattle.sp_tree.specs.declared.token.Keyword.{Keyword}
use Rattle.sp_tree.specs.declared.token.Keyword.TheVariants.{Auto, Break, Case, Char, Const, Continue, Default, Do, Double, Else, Enum, Extern, Float, For, Goto, If, Int, Long, Register, Return, Short, Signed, Sizeof, Static, Struct, Switch, Typedef, Union, Unsigned, Void, Volatile, While}
use Rattle.sp_lexer.specs.Bytes.{begins}
use Rattle.sp_tree.specs.Spellings.{keyword_spelling}
use Rattle.sp_tree.specs.declared.fault.FaultKind.{FaultKind}
use Rattle.sp_tree.specs.declared.fault.FaultKind.TheVariants.{InlineAssembly, GnuWord}

abbrev pub keywords : List Keyword
keywords = Auto ∷ Break ∷ Case ∷ Char ∷ Const ∷ Continue ∷ Default ∷ Do ∷ Double ∷ Else ∷ Enum ∷ Extern ∷ Float ∷ For ∷ Goto ∷ If ∷ Int ∷ Long ∷ Register ∷ Return ∷ Short ∷ Signed ∷ Sizeof ∷ Static ∷ Struct ∷ Switch ∷ Typedef ∷ Union ∷ Unsigned ∷ Void ∷ Volatile ∷ While ∷ []

-- the keyword that is written so (C90 6.1.1)
unfoldable pub keyword_of : List ℕ → Option Keyword
keyword_of word = find (λ keyword. bytes_eq (keyword_spelling keyword) word) keywords

-- the keywords that begin with a byte
unfoldable pub keywords_from : ℕ → List Keyword
keywords_from first = filter (λ keyword. begins (λ b. b == first) (keyword_spelling keyword)) keywords

-- the words of inline assembly
unfoldable pub assembly_words : List (List ℕ)
assembly_words = codes "asm" ∷ codes "__asm" ∷ codes "__asm__" ∷ []

-- the words of GNU C, beside those that begin with __builtin_
unfoldable pub gnu_words : List (List ℕ)
gnu_words =
    codes "__attribute__" ∷ codes "__attribute" ∷ codes "__extension__" ∷ codes "__typeof__" ∷ codes "__typeof"
    ∷ codes "__inline" ∷ codes "__inline__" ∷ codes "__restrict" ∷ codes "__restrict__" ∷ codes "__const" ∷ codes "__const__"
    ∷ codes "__volatile" ∷ codes "__volatile__" ∷ codes "__signed__" ∷ codes "__alignof__" ∷ codes "__label__" ∷ []

unfoldable pub is_gnu_word : List ℕ → Bool
is_gnu_word word = list_any (bytes_eq word) gnu_words || starts_with nat_eq word (codes "__builtin_")

-- the fault that a word is by itself
unfoldable pub refused_word : List ℕ → Option FaultKind
refused_word word =
    if list_any (bytes_eq word) assembly_words then Some InlineAssembly
    else if is_gnu_word word then Some GnuWord
    else None
