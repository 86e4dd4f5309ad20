-- That any tokens are read or fail, and not both: what is checked of a table for it, and what it says.
use Rattle.std.specs.Prelude.{◌≡◌, ◌⊎◌, ℕ, ◌<◌, ◌≤◌, Bool, true, false, List, [], ◌∷◌, ◌++◌, length, Option, Some, None, ⊤}
use Rattle.sp_parse_grammar.specs.Table.{Symbols, Plan, done, take, call, Table, ask, Reads, Want, Fails, Takes}

-- The tokens end with a last one, and none before it is one.
abbrev pub AreEnded : {A : Type 0} → (A → Bool) → List A → Type 0
AreEnded last [] = ⊥
AreEnded last (x ∷ []) = last x ≡ true
AreEnded last (x ∷ y ∷ ys) = (last x ≡ false) × AreEnded last (y ∷ ys)

-- Each part of the plan is covered, and none takes a last token.
abbrev pub Spares : {S : Symbols} (Covers : S.Ask → Type 0) (last : S.Token → Bool) {m : S.Ask} → Plan S m → Type 0
Spares Covers last (done o) = ⊤
Spares {S} Covers last (take c k) = (y : S.Token) → S.accepts c y ≡ true → (last y ≡ false) × Spares Covers last (k y)
Spares {S} Covers last (call n k) = Covers n × ((a : S.Answer n) → Spares Covers last (k a))

-- The same of a production that was chosen by this token: where it takes a token first, that is the one.
abbrev pub SparesFrom : {S : Symbols} (Covers : S.Ask → Type 0) (last : S.Token → Bool) {m : S.Ask} → S.Token → Plan S m → Type 0
SparesFrom Covers last x (done o) = ⊤
SparesFrom {S} Covers last x (take c k) = S.accepts c x ≡ true → (last x ≡ false) × Spares Covers last (k x)
SparesFrom {S} Covers last x (call n k) = Covers n × ((a : S.Answer n) → Spares Covers last (k a))

-- Up to the first token that is read, the plan calls for parts of a lower rank alone: so no part begins with itself.
abbrev pub Descends : {S : Symbols} (T : Table S) (rank : S.Ask → ℕ) {m : S.Ask} → ℕ → Plan S m → Type 0
Descends T rank r (done o) = ⊤
Descends T rank r (take c k) = ⊤
Descends {S} T rank r (call n k) = (rank n < r) × (T.ending n ≡ [] → (a : S.Answer n) → Descends T rank r (k a))

abbrev pub SparesAt : {S : Symbols} (Covers : S.Ask → Type 0) (last : S.Token → Bool) {n : S.Ask} → S.Token → Option (Plan S n) → Type 0
SparesAt Covers last x None = ⊤
SparesAt Covers last x (Some q) = SparesFrom Covers last x q

abbrev pub DescendsAt : {S : Symbols} (T : Table S) (rank : S.Ask → ℕ) {n : S.Ask} → ℕ → Option (Plan S n) → Type 0
DescendsAt T rank r None = ⊤
DescendsAt T rank r (Some q) = Descends T rank r q

-- What is checked of a table and the asks that are covered: their productions call for such asks alone, and take no last token,
-- and each calls for lower parts before it reads a token.
pub record Ends {S : Symbols} (T : Table S) (Covers : S.Ask → Type 0) (last : S.Token → Bool) (rank : S.Ask → ℕ) : Type 0 where
  pub spares : (n : S.Ask) (x : S.Token) → Covers n → SparesAt Covers last x (T.predict n x)
  pub descends : (n : S.Ask) (x : S.Token) → Covers n → DescendsAt T rank (rank n) (T.predict n x)

-- From the tokens the plan is read, up to tokens that end so too, or it fails.
pub data IsDecided {S : Symbols} (T : Table S) (last : S.Token → Bool) (m : S.Ask) (p : Plan S m) (xs : List S.Token) : Type 0 where
  reads : (o : S.Answer m) (ys : List S.Token) → Reads T m p xs o ys → AreEnded last ys → length ys ≤ length xs → IsDecided T last m p xs
  fails : (f : Want S) (bad : List S.Token) → Fails T m p xs f bad → IsDecided T last m p xs

-- From the tokens the ask is read: some first tokens give an answer, and what is left behind them keeps this. No others do, and it
-- doesn't fail.
pub record HasOneReading {S : Symbols} (T : Table S) (Left : List S.Token → Type 0) (n : S.Ask) (xs : List S.Token) : Type 0 where
  pub front : List S.Token
  pub rest : List S.Token
  pub answer : S.Answer n
  pub read : Reads T n (ask n) xs answer rest
  pub spells : xs ≡ front ++ rest
  pub left : Left rest
  pub only : (o : S.Answer n) (ys : List S.Token) → Reads T n (ask n) xs o ys → (o ≡ answer) × (ys ≡ rest)
  pub never_fails : (f : Want S) (bad : List S.Token) → ¬ Fails T n (ask n) xs f bad

-- From the tokens the ask fails at one of them, which isn't what was wanted there. It fails nowhere else, and isn't read.
pub record HasOneFault {S : Symbols} (T : Table S) (n : S.Ask) (xs : List S.Token) : Type 0 where
  pub front : List S.Token
  pub token : S.Token
  pub more : List S.Token
  pub want : Want S
  pub failed : Fails T n (ask n) xs want (token ∷ more)
  pub spells : xs ≡ front ++ token ∷ more
  pub unwanted : ¬ Takes T want token
  pub only : (f : Want S) (bad : List S.Token) → Fails T n (ask n) xs f bad → (f ≡ want) × (bad ≡ token ∷ more)
  pub never_read : (o : S.Answer n) (ys : List S.Token) → ¬ Reads T n (ask n) xs o ys

-- Exactly one of the two.
abbrev pub HasOneOutcome : {S : Symbols} (T : Table S) (Left : List S.Token → Type 0) (n : S.Ask) (xs : List S.Token) → Type 0
HasOneOutcome T Left n xs = HasOneReading T Left n xs ⊎ HasOneFault T n xs
