-- Grammars as tables of plans.
--
-- The tokens come in classes. What a grammar can be asked for is an ask, and each ask has its own answers: a tree, or a tree
-- with flags. A production is a plan: a small program that takes tokens and asks for parts, and goes on with a function of what
-- came back. So what is known before a part goes down in its ask, and what came of it goes up in its answer; left recursion
-- is an ask that carries the left part. A table chooses the production by the ask and the next token alone.
use Rattle.std.specs.Prelude.{◌≡◌, Bool, true, false, List, [], ◌∷◌, ◌++◌, Option, Some, None}

-- The tokens, their classes, what can be asked for, and the answers to that.
pub record Symbols : Type 1 where
  pub Token : Type 0
  pub Class : Type 0
  pub Ask : Type 0
  pub Answer : Ask → Type 0
  pub accepts : Class → Token → Bool

-- What is still to be read for an answer: nothing, a token of a class, or a part.
pub data Plan (S : Symbols) (m : S.Ask) : Type 0 where
  done : S.Answer m → Plan S m
  take : S.Class → (S.Token → Plan S m) → Plan S m
  call : (n : S.Ask) → (S.Answer n → Plan S m) → Plan S m

-- The productions, and how a text that was begun is completed: a token of each class, the tokens of a shortest part for each ask
-- with its answer, and the tokens before which a part of that ask may end.
pub record Table (S : Symbols) : Type 1 where
  pub predict : (n : S.Ask) → S.Token → Option (Plan S n)
  pub token : S.Class → S.Token
  pub ending : S.Ask → List S.Token
  pub value : (n : S.Ask) → S.Answer n
  pub Stops : S.Ask → S.Token → Type 0

-- the plan of one part alone
abbrev pub ask : {S : Symbols} (n : S.Ask) → Plan S n
ask n = call n (λ a. done a)

-- the tokens of the shortest rest of a plan
abbrev pub rest_of : {S : Symbols} (T : Table S) {m : S.Ask} → Plan S m → List S.Token
rest_of T (done o) = []
rest_of T (take c k) = T.token c ∷ rest_of T (k (T.token c))
rest_of T (call n k) = T.ending n ++ rest_of T (k (T.value n))

-- the answer of the shortest rest of a plan
abbrev pub result_of : {S : Symbols} (T : Table S) {m : S.Ask} → Plan S m → S.Answer m
result_of T (done o) = o
result_of T (take c k) = result_of T (k (T.token c))
result_of T (call n k) = result_of T (k (T.value n))

-- the first of the tokens, or this one where there is none
abbrev pub first : {A : Type 0} → List A → A → A
first [] z = z
first (x ∷ xs) z = x

-- The tokens begin with this one.
abbrev pub Heads : {A : Type 0} → List A → A → Type 0
Heads [] z = ⊥
Heads (x ∷ xs) z = x ≡ z

-- ---- reading and failing

-- From the first tokens the plan is read with this answer, and then the last tokens are left.
pub data Reads {S : Symbols} (T : Table S) : (m : S.Ask) → Plan S m → List S.Token → S.Answer m → List S.Token → Type 0 where
  read_done : {m : S.Ask} {o : S.Answer m} {xs : List S.Token} → Reads T m (done o) xs o xs
  read_take : {m : S.Ask} {c : S.Class} {k : S.Token → Plan S m} {x : S.Token} {xs ys : List S.Token} {o : S.Answer m} → S.accepts c x ≡ true → Reads T m (k x) xs o ys → Reads T m (take c k) (x ∷ xs) o ys
  read_call : {m n : S.Ask} {k : S.Answer n → Plan S m} {q : Plan S n} {x : S.Token} {xs ys zs : List S.Token} {a : S.Answer n} {o : S.Answer m} → T.predict n x ≡ Some q → Reads T n q (x ∷ xs) a ys → Reads T m (k a) ys o zs → Reads T m (call n k) (x ∷ xs) o zs

-- What was looked for at a failing token: a token of a class, or the beginning of a part.
pub data Want (S : Symbols) : Type 0 where
  wanted : S.Class → Want S
  asked : S.Ask → Want S

-- From the first tokens the plan isn't read, since the head of the last tokens isn't what was wanted there.
pub data Fails {S : Symbols} (T : Table S) : (m : S.Ask) → Plan S m → List S.Token → Want S → List S.Token → Type 0 where
  fail_take : {m : S.Ask} {c : S.Class} {k : S.Token → Plan S m} {x : S.Token} {xs : List S.Token} → S.accepts c x ≡ false → Fails T m (take c k) (x ∷ xs) (wanted c) (x ∷ xs)
  fail_later : {m : S.Ask} {c : S.Class} {k : S.Token → Plan S m} {x : S.Token} {xs bad : List S.Token} {f : Want S} → S.accepts c x ≡ true → Fails T m (k x) xs f bad → Fails T m (take c k) (x ∷ xs) f bad
  fail_ask : {m n : S.Ask} {k : S.Answer n → Plan S m} {x : S.Token} {xs : List S.Token} → T.predict n x ≡ None → Fails T m (call n k) (x ∷ xs) (asked n) (x ∷ xs)
  fail_inside : {m n : S.Ask} {k : S.Answer n → Plan S m} {q : Plan S n} {x : S.Token} {xs bad : List S.Token} {f : Want S} → T.predict n x ≡ Some q → Fails T n q (x ∷ xs) f bad → Fails T m (call n k) (x ∷ xs) f bad
  fail_behind : {m n : S.Ask} {k : S.Answer n → Plan S m} {q : Plan S n} {x : S.Token} {xs ys bad : List S.Token} {a : S.Answer n} {f : Want S} → T.predict n x ≡ Some q → Reads T n q (x ∷ xs) a ys → Fails T m (k a) ys f bad → Fails T m (call n k) (x ∷ xs) f bad

-- The plan begins by taking this token.
pub data Opens {S : Symbols} (T : Table S) : (m : S.Ask) → Plan S m → S.Token → Type 0 where
  open_take : {m : S.Ask} {c : S.Class} {k : S.Token → Plan S m} {x : S.Token} → S.accepts c x ≡ true → Opens T m (take c k) x
  open_call : {m n : S.Ask} {k : S.Answer n → Plan S m} {q : Plan S n} {x : S.Token} → T.predict n x ≡ Some q → Opens T n q x → Opens T m (call n k) x

-- What was wanted takes this token.
abbrev pub Takes : {S : Symbols} (T : Table S) → Want S → S.Token → Type 0
Takes {S} T (wanted c) x = S.accepts c x ≡ true
Takes {S} T (asked n) x = (q : Plan S n) × (T.predict n x ≡ Some q) × Opens T n q x
