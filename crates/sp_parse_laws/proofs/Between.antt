-- A fact that joins the tokens before a part, its answer and the tokens after it, kept production by production.
use Rattle.std.proofs.Common.{◌≡◌, true, List, ◌∷◌, Some, None, subst}
use Rattle.std.specs.Prelude.{Option, ⊤}
use Rattle.sp_parse_grammar.specs.Table.{Symbols, Plan, done, take, call, Table, ask, Reads, read_done, read_take, read_call}

-- a fact on an ask, the tokens from which it is read, its answer, and those that are left
abbrev pub Fact : Symbols → Type 1
Fact S = (n : S.Ask) → List S.Token → S.Answer n → List S.Token → Type 0

-- From `xs` the plan was read up to `ys`; P holds of each answer of it, where Q and P hold of each part.
abbrev pub Between : {S : Symbols} (P Q : Fact S) {m : S.Ask} → Plan S m → List S.Token → List S.Token → Type 0
Between P Q {m} (done o) xs ys = P m xs o ys
Between {S} P Q (take c k) xs ys = (x : S.Token) (zs : List S.Token) → S.accepts c x ≡ true → Between P Q (k x) xs zs
Between {S} P Q (call n k) xs ys = (a : S.Answer n) (zs : List S.Token) → Q n ys a zs → P n ys a zs → Between P Q (k a) xs zs

-- The same of the production for a token, with those behind it.
abbrev pub BetweenAt : {S : Symbols} (P Q : Fact S) (n : S.Ask) → List S.Token → Option (Plan S n) → Type 0
BetweenAt P Q n xs None = ⊤
BetweenAt P Q n xs (Some q) = Between P Q q xs xs

-- Where P says nothing, each production keeps it.
module _ {S : Symbols} (P Q : Fact S) (m : S.Ask) (all : (xs : List S.Token) (o : S.Answer m) (ys : List S.Token) → P m xs o ys) where
  plan_keeps : (p : Plan S m) (xs ys : List S.Token) → Between P Q p xs ys
  plan_keeps (done o) xs ys = all xs o ys
  plan_keeps (take c k) xs ys = λ x zs e. plan_keeps (k x) xs zs
  plan_keeps (call n k) xs ys = λ a zs q p. plan_keeps (k a) xs zs

  pub none_said : (xs : List S.Token) (q : Option (Plan S m)) → BetweenAt P Q m xs q
  none_said xs None = tt
  none_said xs (Some q) = plan_keeps q xs xs

module _ {S : Symbols} (T : Table S) (P Q : Fact S) (known : (n : S.Ask) (xs ys : List S.Token) (a : S.Answer n) → Reads T n (ask n) xs a ys → Q n xs a ys)
    (each : (n : S.Ask) (x : S.Token) (xs : List S.Token) → BetweenAt P Q n (x ∷ xs) (T.predict n x)) where
  between : {m : S.Ask} {p : Plan S m} {ys zs : List S.Token} {o : S.Answer m} → Reads T m p ys o zs → (xs : List S.Token) → Between P Q p xs ys → P m xs o zs
  between read_done xs keeps = keeps
  between (read_take {x = x} {xs = rest} e r) xs keeps = between r xs (keeps x rest e)
  between (read_call {n = n} {x = x} {xs = rest} {ys = mid} {a = a} e r s) xs keeps =
      let part = between r (x ∷ rest) (subst (BetweenAt P Q n (x ∷ rest)) e (each n x rest)) in
      between s xs (keeps a mid (known n (x ∷ rest) mid a (read_call e r read_done)) part)

  -- What is read for an ask has the fact.
  pub fact_of : {n : S.Ask} {xs ys : List S.Token} {a : S.Answer n} → Reads T n (ask n) xs a ys → P n xs a ys
  fact_of {n = n} (read_call {x = x} {xs = rest} e r read_done) = between r (x ∷ rest) (subst (BetweenAt P Q n (x ∷ rest)) e (each n x rest))
