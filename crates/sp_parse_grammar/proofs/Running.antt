-- A table at work on some tokens: what is read, or where it fails, with its proof.
use Rattle.std.proofs.Common.{◌≡◌, ℕ, zero, suc, Bool, true, false, List, [], ◌∷◌, Option, Some, None, refl, subst}
use Rattle.sp_parse_grammar.specs.Table.{Symbols, Plan, done, take, call, Table, Reads, read_done, read_take, read_call, Want, wanted, asked, Fails, fail_take, fail_later, fail_ask, fail_inside, fail_behind}
use Rattle.sp_parse_grammar.proofs.Readings.{at_rest}

-- What comes of a plan: it is read or fails, or the tokens or the steps don't do.
pub data Outcome {S : Symbols} (T : Table S) (m : S.Ask) (p : Plan S m) (xs : List S.Token) : Type 0 where
  read : (o : S.Answer m) (ys : List S.Token) → Reads T m p xs o ys → Outcome T m p xs
  fault : (f : Want S) (bad : List S.Token) → Fails T m p xs f bad → Outcome T m p xs
  unknown : Outcome T m p xs

-- It is read, up to these tokens.
abbrev pub IsRead : {S : Symbols} {T : Table S} {m : S.Ask} {p : Plan S m} {xs : List S.Token} → Outcome T m p xs → List S.Token → Type 0
IsRead (read o ys r) zs = ys ≡ zs
IsRead (fault f bad h) zs = ⊥
IsRead unknown zs = ⊥

-- It fails at these tokens, where this was wanted.
abbrev pub IsFault : {S : Symbols} {T : Table S} {m : S.Ask} {p : Plan S m} {xs : List S.Token} → Outcome T m p xs → Want S → List S.Token → Type 0
IsFault (read o ys r) g zs = ⊥
IsFault (fault f bad h) g zs = (f ≡ g) × (bad ≡ zs)
IsFault unknown g zs = ⊥

pub is_read : {S : Symbols} {T : Table S} {m : S.Ask} {p : Plan S m} {xs zs : List S.Token} (r : Outcome T m p xs) → IsRead r zs → (o : S.Answer m) × Reads T m p xs o zs
is_read (read o ys r) e = (o, at_rest e r)
is_read (fault f bad h) e = absurd e
is_read unknown e = absurd e

pub is_fault : {S : Symbols} {T : Table S} {m : S.Ask} {p : Plan S m} {xs zs : List S.Token} {g : Want S} (r : Outcome T m p xs) → IsFault r g zs → Fails T m p xs g zs
is_fault (read o ys r) e = absurd e
is_fault {T = T} {m = m} {p = p} {xs = xs} {zs = zs} (fault f bad h) e = subst (λ v. Fails T m p xs v zs) e.0 (subst (λ v. Fails T m p xs f v) e.1 h)
is_fault unknown e = absurd e

module _ {S : Symbols} (T : Table S) where
  abbrev pub taken : {m : S.Ask} {c : S.Class} {k : S.Token → Plan S m} {x : S.Token} {xs : List S.Token} (b : Bool) → S.accepts c x ≡ b → Outcome T m (k x) xs → Outcome T m (take c k) (x ∷ xs)
  taken {c = c} {x = x} {xs = xs} false e next = fault (wanted c) (x ∷ xs) (fail_take e)
  taken true e (read o ys r) = read o ys (read_take e r)
  taken true e (fault f bad h) = fault f bad (fail_later e h)
  taken true e unknown = unknown

  abbrev pub behind : {m n : S.Ask} {k : S.Answer n → Plan S m} {q : Plan S n} {x : S.Token} {xs ys : List S.Token} {a : S.Answer n} → T.predict n x ≡ Some q → Reads T n q (x ∷ xs) a ys → Outcome T m (k a) ys → Outcome T m (call n k) (x ∷ xs)
  behind e r (read o zs s) = read o zs (read_call e r s)
  behind e r (fault f bad h) = fault f bad (fail_behind e r h)
  behind e r unknown = unknown

  abbrev pub inside : {m n : S.Ask} {k : S.Answer n → Plan S m} {q : Plan S n} {x : S.Token} {xs : List S.Token} → T.predict n x ≡ Some q → Outcome T n q (x ∷ xs) → ((a : S.Answer n) (ys : List S.Token) → Outcome T m (k a) ys) → Outcome T m (call n k) (x ∷ xs)
  inside e (read a ys r) rest = behind e r (rest a ys)
  inside e (fault f bad h) rest = fault f bad (fail_inside e h)
  inside e unknown rest = unknown

  abbrev pub chosen : {m n : S.Ask} {k : S.Answer n → Plan S m} {x : S.Token} {xs : List S.Token} (o : Option (Plan S n)) → T.predict n x ≡ o → ((q : Plan S n) → Outcome T n q (x ∷ xs)) → ((a : S.Answer n) (ys : List S.Token) → Outcome T m (k a) ys) → Outcome T m (call n k) (x ∷ xs)
  chosen {n = n} {x = x} {xs = xs} None e part rest = fault (asked n) (x ∷ xs) (fail_ask e)
  chosen (Some q) e part rest = inside e (part q) rest

  -- with so many steps, one inside the other
  abbrev pub run : ℕ → {m : S.Ask} (p : Plan S m) (xs : List S.Token) → Outcome T m p xs
  run zero p xs = unknown
  run (suc f) (done o) xs = read o xs read_done
  run (suc f) (take c k) [] = unknown
  run (suc f) (take c k) (x ∷ xs) = taken (S.accepts c x) refl (run f (k x) xs)
  run (suc f) (call n k) [] = unknown
  run (suc f) (call n k) (x ∷ xs) = chosen (T.predict n x) refl (λ q. run f q (x ∷ xs)) (λ a ys. run f (k a) ys)
