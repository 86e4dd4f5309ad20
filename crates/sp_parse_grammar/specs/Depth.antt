-- How deep the answers are nested, and the tokens at which a depth is passed.
use Rattle.std.specs.Prelude.{◌≡◌, ℕ, ◌+◌, ◌≤◌, ◌<◌, true, List, ◌∷◌, ◌++◌, Option, Some, None, ⊤}
use Rattle.sp_parse_grammar.specs.Table.{Symbols, Plan, done, take, call, Table, Reads, Opens}
use Rattle.sp_parse_grammar.specs.Whole.{IsWhole, BeginsWhole}

-- The depth of each answer; the least depth of any answer of an ask, and of one that begins with a token; and how much deeper
-- than its part a part is at least, by the two asks.
pub record Depths (S : Symbols) : Type 0 where
  pub depth : (n : S.Ask) → S.Answer n → ℕ
  pub low : S.Ask → ℕ
  pub least : S.Ask → S.Token → ℕ
  pub down : S.Ask → S.Ask → ℕ

-- The fact holds of each answer that the plan can give.
abbrev pub Gives : {S : Symbols} (D : Depths S) {m : S.Ask} → Plan S m → (S.Answer m → Type 0) → Type 0
Gives D (done o) P = P o
Gives {S} D (take c k) P = (x : S.Token) → S.accepts c x ≡ true → Gives D (k x) P
Gives {S} D (call n k) P = (a : S.Answer n) → D.low n ≤ D.depth n a → Gives D (k a) P

-- Each answer of the plan is as much deeper than its parts as is said.
abbrev pub Deepens : {S : Symbols} (D : Depths S) {m : S.Ask} → Plan S m → Type 0
Deepens D (done o) = ⊤
Deepens {S} D (take c k) = (x : S.Token) → S.accepts c x ≡ true → Deepens D (k x)
Deepens {S} D {m} (call n k) = (a : S.Answer n) → D.low n ≤ D.depth n a → Gives D (k a) (λ o. D.down m n + D.depth n a ≤ D.depth m o) × Deepens D (k a)

-- What is checked of the depths: each production gives answers as deep as is said.
pub record IsDeep {S : Symbols} (D : Depths S) (n : S.Ask) (x : S.Token) (q : Plan S n) : Type 0 where
  pub low : Gives D q (λ o. D.low n ≤ D.depth n o)
  pub least : Gives D q (λ o. D.least n x ≤ D.depth n o)
  pub deepens : Deepens D q

abbrev pub DeepAt : {S : Symbols} (D : Depths S) (n : S.Ask) (x : S.Token) → Option (Plan S n) → Type 0
DeepAt D n x None = ⊤
DeepAt D n x (Some q) = IsDeep D n x q

abbrev pub AreDepths : {S : Symbols} (T : Table S) → Depths S → Type 0
AreDepths {S} T D = (n : S.Ask) (x : S.Token) → DeepAt D n x (T.predict n x)

-- With the head of the last tokens, each answer of the plan is past the depth.
pub data Deep {S : Symbols} (T : Table S) (D : Depths S) : (m : S.Ask) → Plan S m → ℕ → List S.Token → List S.Token → Type 0 where
  deep_here : {m : S.Ask} {q : Plan S m} {d : ℕ} {x : S.Token} {xs : List S.Token} → T.predict m x ≡ Some q → Opens T m q x → d < D.least m x → Deep T D m q d (x ∷ xs) (x ∷ xs)
  deep_later : {m : S.Ask} {c : S.Class} {k : S.Token → Plan S m} {d : ℕ} {x : S.Token} {xs bad : List S.Token} → S.accepts c x ≡ true → Deep T D m (k x) d xs bad → Deep T D m (take c k) d (x ∷ xs) bad
  deep_inside : {m n : S.Ask} {k : S.Answer n → Plan S m} {q : Plan S n} {d e : ℕ} {x : S.Token} {xs bad : List S.Token} → T.predict n x ≡ Some q → d ≤ D.down m n + e → Deep T D n q e (x ∷ xs) bad → Deep T D m (call n k) d (x ∷ xs) bad
  deep_behind : {m n : S.Ask} {k : S.Answer n → Plan S m} {q : Plan S n} {d : ℕ} {x : S.Token} {xs ys bad : List S.Token} {a : S.Answer n} → T.predict n x ≡ Some q → Reads T n q (x ∷ xs) a ys → Deep T D m (k a) d ys bad → Deep T D m (call n k) d (x ∷ xs) bad

-- With the head of the last tokens, each answer to the ask is past the depth.
pub data Nests {S : Symbols} (T : Table S) (D : Depths S) (n : S.Ask) (d : ℕ) : List S.Token → List S.Token → Type 0 where
  nests : {q : Plan S n} {x : S.Token} {xs bad : List S.Token} → T.predict n x ≡ Some q → Deep T D n q d (x ∷ xs) bad → Nests T D n d (x ∷ xs) bad

-- Some whole begins with these tokens, and each that does is past the depth.
pub record IsTooDeep {S : Symbols} (T : Table S) (D : Depths S) (n : S.Ask) (d : ℕ) (tokens : List S.Token) (z : S.Token) : Type 0 where
  pub goes_on : BeginsWhole T n tokens z
  pub deeper : (rest : List S.Token) (a : S.Answer n) (y : S.Token) → IsWhole T n (tokens ++ rest) a y → d < D.depth n a
