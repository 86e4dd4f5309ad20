-- Facts that join the tokens of a part to its answer, checked production by production: what a tree spells, its levels, its places.
use Rattle.std.specs.Prelude.{◌≡◌, true, List, [], ◌∷◌, ◌++◌, Option, Some, None, ⊤}
use Rattle.sp_parse_grammar.specs.Table.{Symbols, Plan, done, take, call, Table}

-- The fact holds of each answer of the plan and these tokens with those that the plan reads.
abbrev pub Keeps : {S : Symbols} (P : (n : S.Ask) → List S.Token → S.Answer n → Type 0) {m : S.Ask} → Plan S m → List S.Token → Type 0
Keeps P {m} (done o) ws = P m ws o
Keeps {S} P (take c k) ws = (x : S.Token) → S.accepts c x ≡ true → Keeps P (k x) (ws ++ x ∷ [])
Keeps {S} P (call n k) ws = (vs : List S.Token) (a : S.Answer n) → P n vs a → Keeps P (k a) (ws ++ vs)

-- The same of a production that was chosen by this token: where it takes a token first, that is the one.
abbrev pub KeepsFrom : {S : Symbols} (P : (n : S.Ask) → List S.Token → S.Answer n → Type 0) {m : S.Ask} → S.Token → Plan S m → Type 0
KeepsFrom P {m} x (done o) = P m [] o
KeepsFrom {S} P x (take c k) = S.accepts c x ≡ true → Keeps P (k x) (x ∷ [])
KeepsFrom {S} P x (call n k) = (vs : List S.Token) (a : S.Answer n) → P n vs a → Keeps P (k a) vs

abbrev pub KeptAt : {S : Symbols} (P : (n : S.Ask) → List S.Token → S.Answer n → Type 0) (n : S.Ask) (x : S.Token) → Option (Plan S n) → Type 0
KeptAt P n x None = ⊤
KeptAt P n x (Some q) = KeepsFrom P x q

-- Each production keeps the fact.
abbrev pub IsKept : {S : Symbols} (T : Table S) → ((n : S.Ask) → List S.Token → S.Answer n → Type 0) → Type 0
IsKept {S} T P = (n : S.Ask) (x : S.Token) → KeptAt P n x (T.predict n x)
