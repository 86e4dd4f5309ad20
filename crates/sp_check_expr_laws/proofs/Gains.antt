-- Scopes that gain functions: a name that is called in a list of parameters is declared in the
-- block around the list (C90 6.3.2.2), so a scope around the innermost one may gain a function.
use Rattle.std.proofs.Common.{◌≡◌, ◌⊎◌, inl, inr, ℕ, suc, Bool, true, false, if◌then◌else◌, nat_eq, List, [], ◌∷◌, Some, refl, sym, subst}
use Rattle.std.specs.Prelude.{slice_get, ⊤}
use Rattle.indexmap.specs.IndexMap.{insert_entry}
use Rattle.sp_check_scopes.specs.Meanings.{Meaning}
use Rattle.sp_check_scopes.specs.Meanings as means
use Rattle.sp_check_scopes.specs.Scopes.{Scope, Scopes, is_empty, is_block, name_added, with_name, named_in_block, with_block_name}
use Rattle.sp_check_formed_laws.proofs.Lists.{none_some, Each, each_first, each_behind}

-- it had its meaning among these, or stands for a function
abbrev pub IsOldOrFunction : List (ℕ × Meaning) → ℕ × Meaning → Type 0
IsOldOrFunction ns n = ((j : ℕ) × (slice_get ns j ≡ Some n)) ⊎ ((k : ℕ) × (n.1 ≡ means.function k))

abbrev pub NamesGain : List (ℕ × Meaning) → List (ℕ × Meaning) → Type 0
NamesGain ns ms = Each (IsOldOrFunction ns) ms

-- as many scopes, in which all names but those of functions stand for what they stood for
abbrev pub ScopesGain : List Scope → List Scope → Type 0
ScopesGain [] [] = ⊤
ScopesGain (s ∷ ss) (t ∷ ts) = NamesGain s.names t.names × ScopesGain ss ts
ScopesGain _ _ = ⊥

-- the innermost first
abbrev pub all_scopes : Scopes → List Scope
all_scopes s = s.inner ∷ s.around

-- ---- where nothing is gained, and one rule behind the other

names_stay : (ns : List (ℕ × Meaning)) → NamesGain ns ns
names_stay ns = λ k n at. inl (k, at)

pub scopes_stay : (ss : List Scope) → ScopesGain ss ss
scopes_stay [] = tt
scopes_stay (s ∷ ss) = (names_stay s.names, scopes_stay ss)

names_gain_on : (xs ys zs : List (ℕ × Meaning)) → NamesGain xs ys → NamesGain ys zs
    → NamesGain xs zs
names_gain_on xs ys zs g h = λ k n at. by n (h k n at)
  where
    by : (n : ℕ × Meaning) → IsOldOrFunction ys n → IsOldOrFunction xs n
    by n (inl old) = g old.0 n old.1
    by n (inr f) = inr f

pub scopes_gain_on : (ss ts us : List Scope) → ScopesGain ss ts → ScopesGain ts us
    → ScopesGain ss us
scopes_gain_on [] [] us g h = h
scopes_gain_on [] (t ∷ ts) us g h = absurd g
scopes_gain_on (s ∷ ss) [] us g h = absurd g
scopes_gain_on (s ∷ ss) (t ∷ ts) [] g h = absurd h
scopes_gain_on (s ∷ ss) (t ∷ ts) (u ∷ us) g h = (
  names_gain_on s.names t.names u.names g.0 h.0,
  scopes_gain_on ss ts us g.1 h.1,
)

pub empty_alike : (ss ts : List Scope) → ScopesGain ss ts → is_empty ts ≡ is_empty ss
empty_alike [] [] g = refl
empty_alike [] (t ∷ ts) g = absurd g
empty_alike (s ∷ ss) [] g = absurd g
empty_alike (s ∷ ss) (t ∷ ts) g = refl

-- ---- what holds of functions, and of what names stood for

module _ (P : Meaning → Type 0) (p : (k : ℕ) → P (means.function k)) where
  pub names_gained : (ns ms : List (ℕ × Meaning)) → NamesGain ns ms → Each (λ n. P n.1) ns
      → Each (λ n. P n.1) ms
  names_gained ns ms g h = λ k n at. by n (g k n at)
    where
      by : (n : ℕ × Meaning) → IsOldOrFunction ns n → P n.1
      by n (inl old) = h old.0 n old.1
      by n (inr f) = subst P (sym f.1) (p f.0)

  pub scopes_gained : (ss ts : List Scope) → ScopesGain ss ts
      → Each (λ s. Each (λ n. P n.1) s.names) ss → Each (λ s. Each (λ n. P n.1) s.names) ts
  scopes_gained [] [] g h = h
  scopes_gained [] (t ∷ ts) g h = absurd g
  scopes_gained (s ∷ ss) [] g h = absurd g
  scopes_gained (s ∷ ss) (t ∷ ts) g h =
      each_first (λ s. Each (λ n. P n.1) s.names) t ts
      (names_gained s.names t.names g.0 (h 0 s refl))
      (scopes_gained ss ts g.1 (each_behind (λ s. Each (λ n. P n.1) s.names) s ss h))

-- ---- a name that stands for a function

inserted_gain : (ns : List (ℕ × Meaning)) (n k : ℕ)
    → NamesGain ns (insert_entry nat_eq ns n (means.function k))
inserted_gain [] n k = each_first (IsOldOrFunction []) (n, means.function k) [] (inr (k, refl))
    (λ j m at. absurd (none_some m at))
inserted_gain (e ∷ ns) n k = by (nat_eq n e.0) (inserted_gain ns n k)
  where
    more : (m : ℕ × Meaning) → IsOldOrFunction ns m → IsOldOrFunction (e ∷ ns) m
    more m (inl old) = inl (suc old.0, old.1)
    more m (inr f) = inr f

    by : (b : Bool) → NamesGain ns (insert_entry nat_eq ns n (means.function k))
        → NamesGain (e ∷ ns)
        (if b then (e.0, means.function k) ∷ ns
        else e ∷ insert_entry nat_eq ns n (means.function k))
    by true ih =
        each_first (IsOldOrFunction (e ∷ ns)) (e.0, means.function k) ns (inr (k, refl))
        (λ j m at. inl (suc j, at))
    by false ih =
        each_first (IsOldOrFunction (e ∷ ns)) e (insert_entry nat_eq ns n (means.function k))
        (inl (0, refl)) (λ j m at. more m (ih j m at))

block_gains : (ss : List Scope) (n k : ℕ) → ScopesGain ss (named_in_block ss n (means.function k))
block_gains [] n k = tt
block_gains (s ∷ ss) n k = by (is_block s.kind) (block_gains ss n k)
  where
    by : (b : Bool) → ScopesGain ss (named_in_block ss n (means.function k))
        → ScopesGain (s ∷ ss) (if b then name_added s n (means.function k) ∷ ss
        else s ∷ named_in_block ss n (means.function k))
    by true ih = (inserted_gain s.names n k, scopes_stay ss)
    by false ih = (names_stay s.names, ih)

pub block_name_gained : (s : Scopes) (n k : ℕ)
    → ScopesGain (all_scopes s) (all_scopes (with_block_name s n (means.function k)))
block_name_gained s n k = by (is_block s.inner.kind)
  where
    by : (b : Bool) → ScopesGain (all_scopes s) (all_scopes
        (if b then with_name s n (means.function k)
        else record s { around = named_in_block s.around n (means.function k) }))
    by true = (inserted_gain s.inner.names n k, scopes_stay s.around)
    by false = (names_stay s.inner.names, block_gains s.around n k)
