-- Wholes of an ask, and what holds at a failing token, said without the table's plans.
use Rattle.std.specs.Prelude.{List, [], ◌∷◌, ◌++◌}
use Rattle.sp_parse_grammar.specs.Table.{Symbols, Table, ask, Reads}

-- The tokens are a whole with this answer, behind which that token may stand.
pub record IsWhole {S : Symbols} (T : Table S) (n : S.Ask) (tokens : List S.Token) (a : S.Answer n) (z : S.Token) : Type 0 where
  pub read : (zs : List S.Token) → Reads T n (ask n) (tokens ++ z ∷ zs) a (z ∷ zs)

-- Some whole begins with these tokens.
pub record BeginsWhole {S : Symbols} (T : Table S) (n : S.Ask) (tokens : List S.Token) (z : S.Token) : Type 0 where
  pub rest : List S.Token
  pub answer : S.Answer n
  pub whole : IsWhole T n (tokens ++ rest) answer z

-- At this token, behind those, every reading ends: a whole goes on up to it, none with it, and none ends before it.
pub record IsFailing {S : Symbols} (T : Table S) (n : S.Ask) (front : List S.Token) (x z : S.Token) : Type 0 where
  pub goes_on : BeginsWhole T n front z
  pub none_whole : (a : S.Answer n) (y : S.Token) → ¬ IsWhole T n front a y
  pub nothing_goes_on : (y : S.Token) → ¬ BeginsWhole T n (front ++ x ∷ []) y
