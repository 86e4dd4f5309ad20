-- The laws of grammars as tables, over any table.
use Rattle.std.specs.Prelude.{◌≡◌, ℕ, Bool, List, [], ◌∷◌, ◌++◌}
use Rattle.sp_parse_grammar.specs.Table.{Symbols, Table, ask, Reads, Want, Fails}
use Rattle.sp_parse_grammar.specs.Whole.{IsWhole, BeginsWhole, IsFailing}
use Rattle.sp_parse_grammar.specs.Kept.{IsKept}
use Rattle.sp_parse_grammar.specs.Depth.{Depths, AreDepths, Nests, IsTooDeep}
use Rattle.sp_parse_grammar.specs.Totality.{AreEnded, Ends, HasOneOutcome}

-- From the same tokens there is one reading, or one fault with one want, and never both.
pub record IsDetermined {S : Symbols} (T : Table S) : Type 0 where
  pub one_reading : (n : S.Ask) (xs ys zs : List S.Token) (a b : S.Answer n) → Reads T n (ask n) xs a ys → Reads T n (ask n) xs b zs → (a ≡ b) × (ys ≡ zs)
  pub one_fault : (n : S.Ask) (xs ys zs : List S.Token) (f g : Want S) → Fails T n (ask n) xs f ys → Fails T n (ask n) xs g zs → (f ≡ g) × (ys ≡ zs)
  pub never_both : (n : S.Ask) (xs ys zs : List S.Token) (a : S.Answer n) (f : Want S) → Reads T n (ask n) xs a ys → ¬ Fails T n (ask n) xs f zs

-- What holds of a checked table.
pub record IsLawful {S : Symbols} (T : Table S) : Type 0 where
  -- what is read is a whole before the next token, and with that token none begins
  pub longest : (n : S.Ask) (front more : List S.Token) (x : S.Token) (a : S.Answer n) → Reads T n (ask n) (front ++ x ∷ more) a (x ∷ more)
      → IsWhole T n front a x × ((z : S.Token) → ¬ BeginsWhole T n (front ++ x ∷ []) z)
  -- at a fault stands the failing token
  pub failing : (n : S.Ask) (front more : List S.Token) (x z : S.Token) (f : Want S) → T.Stops n z → Fails T n (ask n) (front ++ x ∷ more) f (x ∷ more) → IsFailing T n front x z
  -- what is read is also a whole before any token at which the ask may end
  pub ends_before : (n : S.Ask) (front rest : List S.Token) (z : S.Token) (a : S.Answer n) → T.Stops n z → Reads T n (ask n) (front ++ rest) a rest → IsWhole T n front a z
  -- the answer hangs on the tokens of the whole alone
  pub one_answer : (n : S.Ask) (tokens : List S.Token) (y z : S.Token) (a b : S.Answer n) → IsWhole T n tokens a y → IsWhole T n tokens b z → a ≡ b
  -- a fault and what was wanted there hang on the tokens up to the failing one alone, and so does that a depth is passed
  pub fault_stays : (n : S.Ask) (front more others : List S.Token) (x : S.Token) (f : Want S) → Fails T n (ask n) (front ++ x ∷ more) f (x ∷ more) → Fails T n (ask n) (front ++ x ∷ others) f (x ∷ others)
  pub depth_stays : (D : Depths S) (n : S.Ask) (d : ℕ) (front more others : List S.Token) (x : S.Token) → Nests T D n d (front ++ x ∷ more) (x ∷ more) → Nests T D n d (front ++ x ∷ others) (x ∷ others)
  -- where a depth is passed some whole goes on, and each that does is past it
  pub nesting : (D : Depths S) → AreDepths T D → (n : S.Ask) (d : ℕ) (front more : List S.Token) (x z : S.Token) → T.Stops n z → Nests T D n d (front ++ x ∷ more) (x ∷ more) → IsTooDeep T D n d (front ++ x ∷ []) z

-- A fact that each production keeps holds of all that is read.
abbrev pub IsKeptThroughout : {S : Symbols} (T : Table S) → ((n : S.Ask) → List S.Token → S.Answer n → Type 0) → Type 0
IsKeptThroughout {S} T P = IsKept T P → (n : S.Ask) (front rest : List S.Token) (a : S.Answer n) → Reads T n (ask n) (front ++ rest) a rest → P n front a

-- Where the covered asks rank and take no last token, any tokens with a last one are read or fail.
abbrev pub IsDecisive : {S : Symbols} (T : Table S) → (S.Ask → Type 0) → Type 0
IsDecisive {S} T Covers = (last : S.Token → Bool) (rank : S.Ask → ℕ) → Ends T Covers last rank → (n : S.Ask) (xs : List S.Token) → Covers n → AreEnded last xs → HasOneOutcome T (AreEnded last) n xs
