-- How far spellings reach, as counts of bytes.
use Rattle.std.specs.Prelude.{ℕ, suc, Bool, false, not, ◌&&◌, ◌||◌, ◌==◌, List, [], ◌∷◌, Option, Some, None, if◌then◌else◌}
use Rattle.std.specs.Option.{option_map}
use Rattle.sp_lexer.specs.Bytes.{is_digit, begins}
use Rattle.sp_lexer.specs.Spelling.{goes_on}

-- how many bytes stand before the quote that ends a literal, where one does on this line. The first argument says whether a
-- backslash stands before.
abbrev pub before_quote : Bool → ℕ → List ℕ → Option ℕ
before_quote kept quote [] = None
before_quote kept quote (b ∷ bs) = if b == quote && not kept then Some 0 else if b == 10 then None else option_map suc (before_quote (b == 92 && not kept) quote bs)

-- how many bytes go on a number run after a byte
abbrev pub run_len : ℕ → List ℕ → ℕ
run_len last [] = 0
run_len last (b ∷ bs) = if goes_on last b then suc (run_len b bs) else 0

-- whether a number run begins
abbrev pub starts_run : List ℕ → Bool
starts_run [] = false
starts_run (b ∷ bs) = is_digit b || (b == 46 && begins is_digit bs)
