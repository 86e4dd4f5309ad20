-- How far a reading has come.
--
-- A reader begins with an ask at its first tokens. On the way, what is left to be read is all of another ask, or the rest of one
-- of its plans. Either state says at once what a reading, a fault or a depth that is passed from here on means for the first ask.
use Rattle.std.specs.Prelude.{ℕ, List}
use Rattle.sp_parse_grammar.specs.Table.{Symbols, Plan, Table, ask, Reads, Want, Fails}
use Rattle.sp_parse_grammar.specs.Depth.{Depths, Deep, Nests}

-- Of the ask n, begun at the first tokens, all that is left is the ask m at the last tokens; the function makes its answer n's.
pub record Before {S : Symbols} (T : Table S) (D : Depths S) (n m : S.Ask) (g : S.Answer m → S.Answer n) (tokens rest : List S.Token) : Type 0 where
  pub reads : (a : S.Answer m) (ys : List S.Token) → Reads T m (ask m) rest a ys → Reads T n (ask n) tokens (g a) ys
  pub fails : (f : Want S) (bad : List S.Token) → Fails T m (ask m) rest f bad → Fails T n (ask n) tokens f bad
  pub nests : (d : ℕ) (bad : List S.Token) → Nests T D m d rest bad → Nests T D n d tokens bad

-- Of the ask n, begun at the first tokens, all that is left is this plan of the ask m at the last tokens.
pub record Inside {S : Symbols} (T : Table S) (D : Depths S) (n m : S.Ask) (g : S.Answer m → S.Answer n) (p : Plan S m) (tokens rest : List S.Token) : Type 0 where
  pub reads : (a : S.Answer m) (ys : List S.Token) → Reads T m p rest a ys → Reads T n (ask n) tokens (g a) ys
  pub fails : (f : Want S) (bad : List S.Token) → Fails T m p rest f bad → Fails T n (ask n) tokens f bad
  pub nests : (d : ℕ) (bad : List S.Token) → Deep T D m p d rest bad → Nests T D n d tokens bad
