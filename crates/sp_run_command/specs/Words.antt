-- What is written where the words of the command line don't fit.
use Rattle.std.specs.Prelude.{ℕ, List, [], ◌∷◌, ◌++◌, codes}

abbrev pub usage_text : List ℕ
usage_text = codes "usage: sparrow COMMAND [OPTION] WORD.." ++ 10 ∷ []
