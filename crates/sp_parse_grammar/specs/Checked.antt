-- What is checked of a table, ask by ask and token by token, so that the laws of reading and failing hold.
use Rattle.std.specs.Prelude.{◌≡◌, ◌≢◌, true, List, [], ◌∷◌, ◌++◌, Option, Some, None, ◌⊎◌, ⊤}
use Rattle.sp_parse_grammar.specs.Table.{Symbols, Plan, done, take, call, Table, ask, rest_of, result_of, first, Reads, Opens}

-- Each part of the plan may end before the shortest rest of the parts behind it, and the last one before this token.
abbrev pub Follows : {S : Symbols} (T : Table S) {m : S.Ask} → Plan S m → S.Token → Type 0
Follows T (done o) z = ⊤
Follows {S} T (take c k) z = (x : S.Token) → S.accepts c x ≡ true → Follows T (k x) z
Follows {S} T (call n k) z = (a : S.Answer n) → T.Stops n (first (rest_of T (k a)) z) × Follows T (k a) z

-- Whether more is to be read doesn't hang on an answer. (Where it does, put what follows into an ask of its own.)
abbrev pub Even : {S : Symbols} (T : Table S) {m : S.Ask} → Plan S m → Type 0
Even T (done o) = ⊤
Even {S} T (take c k) = (x : S.Token) → Even T (k x)
Even {S} T (call n k) = (a : S.Answer n) → ((b : S.Answer n) → rest_of T (k a) ≡ [] → rest_of T (k b) ≡ []) × Even T (k a)

-- A production that may be read from no token belongs to an ask that is completed by none, and gives that ask's value.
-- Where such an ask has another production, that one takes the token by which it was chosen.
pub record IsFine {S : Symbols} (T : Table S) (n : S.Ask) (x : S.Token) (q : Plan S n) : Type 0 where
  pub follows : (z : S.Token) → T.Stops n z → Follows T q z
  pub hollow : rest_of T q ≡ [] → (T.ending n ≡ []) × (result_of T q ≡ T.value n)
  pub exact : T.ending n ≡ [] → (rest_of T q ≡ []) ⊎ Opens T n q x
  pub even : Even T q

-- An ask that has no production at a token isn't completed by none: so a part that may be empty never fails at its first token.
abbrev pub Good : {S : Symbols} (T : Table S) (n : S.Ask) (x : S.Token) → Option (Plan S n) → Type 0
Good T n x None = T.ending n ≢ []
Good T n x (Some q) = IsFine T n x q

-- What is checked of a table.
pub record Checked {S : Symbols} (T : Table S) : Type 0 where
  pub token_of : (c : S.Class) → S.accepts c (T.token c) ≡ true
  pub ends : (n : S.Ask) (z : S.Token) (zs : List S.Token) → T.Stops n z → Reads T n (ask n) (T.ending n ++ z ∷ zs) (T.value n) (z ∷ zs)
  pub productions : (n : S.Ask) (x : S.Token) → Good T n x (T.predict n x)
