-- Any tokens are read or fail, and not both.
use Rattle.std.proofs.Common.{◌≡◌, ◌⊎◌, inl, inr, ℕ, zero, suc, ◌+◌, ◌<◌, ◌≤◌, Bool, true, false, List, [], ◌∷◌, ◌++◌, length, Option, Some, None, refl, sym, ap, ◌∙◌, subst, arith}
use Rattle.std.proofs.lemmas.List.{length-append, append-nil}
use Rattle.sp_parse_grammar.specs.Table.{Symbols, Plan, done, take, call, Table, ask, Reads, read_done, read_take, read_call, Want, Fails, fail_take, fail_later, fail_ask, fail_inside, fail_behind, Takes}
use Rattle.sp_parse_grammar.specs.Checked.{Checked}
use Rattle.sp_parse_grammar.specs.Totality.{AreEnded, Spares, SparesFrom, SparesAt, Descends, DescendsAt, Ends, IsDecided, reads, fails, HasOneOutcome}
use Rattle.sp_parse_grammar.proofs.Readings.{front_of, spelled, fault_front, fault_spelled, join, ask_fails, join_fails, one_reading, read_or_fails, one_fault}
use Rattle.sp_parse_grammar.proofs.Moving.{hollow}

which : (b : Bool) → (b ≡ true) ⊎ (b ≡ false)
which true = inl refl
which false = inr refl

less_or_same : (k n : ℕ) → k ≤ n → (k < n) ⊎ (k ≡ n)
less_or_same k n h = grind arith

no_length : {A : Type 0} (xs : List A) → length xs ≡ 0 → xs ≡ []
no_length [] e = refl
no_length (x ∷ xs) e = absurd (omega arith)

module _ {S : Symbols} (T : Table S) (last : S.Token → Bool) where
  -- behind a token that isn't the last one stand others
  behind : (x : S.Token) (xs : List S.Token) → AreEnded last (x ∷ xs) → last x ≡ false → AreEnded last xs
  behind x [] e later_ones = absurd cc
  behind x (y ∷ ys) e later_ones = e.1

  more : {m : S.Ask} {c : S.Class} {k : S.Token → Plan S m} (x : S.Token) (xs : List S.Token) → S.accepts c x ≡ true → IsDecided T last m (k x) xs → IsDecided T last m (take c k) (x ∷ xs)
  more x xs e (reads o ys r ended short) = reads o ys (read_take e r) ended (omega (arith, short))
  more x xs e (fails f bad h) = fails f bad (fail_later e h)

  later : {m n : S.Ask} {k : S.Answer n → Plan S m} {xs ys : List S.Token} {a : S.Answer n} → Reads T n (ask n) xs a ys → length ys ≤ length xs → IsDecided T last m (k a) ys → IsDecided T last m (call n k) xs
  later r short (reads o zs s ended less) = reads o zs (join r s) ended (omega (arith, short, less))
  later r short (fails f bad h) = fails f bad (join_fails r h)

  -- an ask that reads no token is completed by none
  empty : Checked T → {n : S.Ask} {xs ys : List S.Token} {a : S.Answer n} (r : Reads T n (ask n) xs a ys) → length ys ≡ length xs → T.ending n ≡ []
  empty c {n} {xs} {ys} r same =
      let size : length xs ≡ length (front_of r) + length ys = ap length (spelled r) ∙ length-append (front_of r) ys in
      sym (append-nil (T.ending n)) ∙ (hollow T c r (no_length (front_of r) (omega arith))).0

  module _ (c : Checked T) (Covers : S.Ask → Type 0) (rank : S.Ask → ℕ) (checked : Ends T Covers last rank) where
    -- the tokens of fewer than this many are decided for covered asks, and those of just as many for those of a lower rank
    abbrev Shorter : ℕ → Type 0
    Shorter size = (n : S.Ask) (xs : List S.Token) → Covers n → length xs < size → AreEnded last xs → IsDecided T last n (ask n) xs

    abbrev Lower : ℕ → ℕ → Type 0
    Lower size r = (n : S.Ask) (xs : List S.Token) → Covers n → length xs ≡ size → rank n < r → AreEnded last xs → IsDecided T last n (ask n) xs

    -- a plan at fewer tokens
    decided_short : (size : ℕ) → Shorter size → (m : S.Ask) (p : Plan S m) (xs : List S.Token) → Spares Covers last p → length xs < size → AreEnded last xs → IsDecided T last m p xs
    decided_short size shorter m (done o) xs spares less ended = reads o xs read_done ended (omega arith)
    decided_short size shorter m (take d k) [] spares less ended = absurd ended
    decided_short size shorter m (take d k) (x ∷ xs) spares less ended =
        by (which (S.accepts d x)) (λ e. decided_short size shorter m (k x) xs (spares x e).1 (omega (arith, less)) (behind x xs ended (spares x e).0))
      where
        by : (S.accepts d x ≡ true) ⊎ (S.accepts d x ≡ false) → (S.accepts d x ≡ true → IsDecided T last m (k x) xs) → IsDecided T last m (take d k) (x ∷ xs)
        by (inl e) next = more x xs e (next e)
        by (inr e) next = fails _ _ (fail_take e)
    decided_short size shorter m (call n k) xs spares less ended =
        by (shorter n xs spares.0 less ended) (λ a ys short ends. decided_short size shorter m (k a) ys (spares.1 a) (omega (arith, short, less)) ends)
      where
        by : IsDecided T last n (ask n) xs → ((a : S.Answer n) (ys : List S.Token) → length ys ≤ length xs → AreEnded last ys → IsDecided T last m (k a) ys) → IsDecided T last m (call n k) xs
        by (reads a ys r ends short) next = later r short (next a ys short ends)
        by (fails f bad h) next = fails f bad (ask_fails h)

    -- a token is taken of just as many
    taken : (size : ℕ) → Shorter size → (m : S.Ask) (d : S.Class) (k : S.Token → Plan S m) (x : S.Token) (xs : List S.Token) → (S.accepts d x ≡ true → (last x ≡ false) × Spares Covers last (k x)) → length (x ∷ xs) ≡ size → AreEnded last (x ∷ xs) → IsDecided T last m (take d k) (x ∷ xs)
    taken size shorter m d k x xs spares same ended = by (which (S.accepts d x))
      where
        by : (S.accepts d x ≡ true) ⊎ (S.accepts d x ≡ false) → IsDecided T last m (take d k) (x ∷ xs)
        by (inl e) = more x xs e (decided_short size shorter m (k x) xs (spares e).1 (omega (arith, same)) (behind x xs ended (spares e).0))
        by (inr e) = fails _ _ (fail_take e)

    -- a plan at just as many
    decided_level : (size r : ℕ) → Shorter size → Lower size r → (m : S.Ask) (p : Plan S m) (xs : List S.Token) → Spares Covers last p → Descends T rank r p → length xs ≡ size → AreEnded last xs → IsDecided T last m p xs
    decided_level size r shorter lower m (done o) xs spares down same ended = reads o xs read_done ended (omega arith)
    decided_level size r shorter lower m (take d k) [] spares down same ended = absurd ended
    decided_level size r shorter lower m (take d k) (x ∷ xs) spares down same ended = taken size shorter m d k x xs (λ e. spares x e) same ended
    decided_level size r shorter lower m (call n k) xs spares down same ended =
        by (lower n xs spares.0 same down.0 ended) (λ a ys level ends none. decided_level size r shorter lower m (k a) ys (spares.1 a) (down.1 none a) (level ∙ same) ends)
      where
        by : IsDecided T last n (ask n) xs → ((a : S.Answer n) (ys : List S.Token) → length ys ≡ length xs → AreEnded last ys → T.ending n ≡ [] → IsDecided T last m (k a) ys) → IsDecided T last m (call n k) xs
        by (reads a ys s ends short) next = rest (less_or_same (length ys) (length xs) short)
          where
            rest : (length ys < length xs) ⊎ (length ys ≡ length xs) → IsDecided T last m (call n k) xs
            rest (inl fewer) = later s short (decided_short size shorter m (k a) ys (spares.1 a) (omega (arith, fewer, same)) ends)
            rest (inr level) = later s short (next a ys level ends (empty c s level))
        by (fails f bad h) next = fails f bad (ask_fails h)

    -- a production at the token that chose it
    produced : (size r : ℕ) → Shorter size → Lower size r → (m : S.Ask) (p : Plan S m) (x : S.Token) (xs : List S.Token) → SparesFrom Covers last x p → Descends T rank r p → length (x ∷ xs) ≡ size → AreEnded last (x ∷ xs) → IsDecided T last m p (x ∷ xs)
    produced size r shorter lower m (done o) x xs spares down same ended = reads o (x ∷ xs) read_done ended (omega arith)
    produced size r shorter lower m (take d k) x xs spares down same ended = taken size shorter m d k x xs spares same ended
    produced size r shorter lower m (call n k) x xs spares down same ended = decided_level size r shorter lower m (call n k) (x ∷ xs) spares down same ended

    asked_at : (size r : ℕ) → Shorter size → Lower size r → (n : S.Ask) (xs : List S.Token) → Covers n → rank n ≤ r → length xs ≡ size → AreEnded last xs → IsDecided T last n (ask n) xs
    asked_at size r shorter lower n [] covered low same ended = absurd ended
    asked_at size r shorter lower n (x ∷ xs) covered low same ended = by (T.predict n x) refl
      where
        part : (q : Plan S n) → T.predict n x ≡ Some q → IsDecided T last n q (x ∷ xs)
        part q e = produced size (rank n) shorter (λ m ys inside same' less ended'. lower m ys inside same' (omega (arith, less, low)) ended') n q x xs (subst (λ (o : Option (Plan S n)). SparesAt Covers last x o) e (checked.spares n x covered)) (subst (λ (o : Option (Plan S n)). DescendsAt T rank (rank n) o) e (checked.descends n x covered)) same ended

        whole : (q : Plan S n) → T.predict n x ≡ Some q → IsDecided T last n q (x ∷ xs) → IsDecided T last n (ask n) (x ∷ xs)
        whole q e (reads o ys r ends short) = reads o ys (read_call e r read_done) ends short
        whole q e (fails f bad h) = fails f bad (fail_inside e h)

        by : (p : Option (Plan S n)) → T.predict n x ≡ p → IsDecided T last n (ask n) (x ∷ xs)
        by None e = fails _ _ (fail_ask e)
        by (Some q) e = whole q e (part q e)

    ranks : (size r : ℕ) → Shorter size → Lower size r
    ranks size zero shorter n xs covered same less ended = absurd (omega (arith, less))
    ranks size (suc r) shorter n xs covered same less ended = asked_at size r shorter (ranks size r shorter) n xs covered (omega (arith, less)) same ended

    sizes : (size : ℕ) → Shorter size
    sizes zero n xs covered less ended = absurd (omega (arith, less))
    sizes (suc size) n xs covered less ended = by (less_or_same (length xs) size (omega (arith, less))) (sizes size)
      where
        by : (length xs < size) ⊎ (length xs ≡ size) → Shorter size → IsDecided T last n (ask n) xs
        by (inl fewer) shorter = shorter n xs covered fewer ended
        by (inr same) shorter = ranks size (suc (rank n)) shorter n xs covered same (omega arith) ended

    -- Any tokens with a last one are read for a covered ask, or fail.
    pub decided : (n : S.Ask) (xs : List S.Token) → Covers n → AreEnded last xs → IsDecided T last n (ask n) xs
    decided n xs covered ended = sizes (suc (length xs)) n xs covered (omega arith) ended

  -- at a fault stands a token that isn't what was wanted
  unwanted_at : {m : S.Ask} {p : Plan S m} {xs bad : List S.Token} {f : Want S} → Fails T m p xs f bad → (x : S.Token) × (ys : List S.Token) × (bad ≡ x ∷ ys) × (¬ Takes T f x)
  unwanted_at (fail_take {x = x} {xs = xs} e) = (x, xs, refl, λ t. cc)
  unwanted_at (fail_later e h) = unwanted_at h
  unwanted_at (fail_ask {x = x} {xs = xs} e) = (x, xs, refl, λ t. let chosen = t.1 in cc)
  unwanted_at (fail_inside e h) = unwanted_at h
  unwanted_at (fail_behind e r h) = unwanted_at h

  -- What is read is read once, and doesn't fail; what fails does so once, and isn't read.
  pub read_once : {Left : List S.Token → Type 0} {n : S.Ask} {xs ys : List S.Token} {o : S.Answer n} → Reads T n (ask n) xs o ys → Left ys → HasOneOutcome T Left n xs
  read_once {n = n} {xs = xs} {ys = ys} {o = o} r left = inl (record {
    front = front_of r;
    rest = ys;
    answer = o;
    read = r;
    spells = spelled r;
    left = left;
    only = λ u zs s. one_reading T n (ask n) xs zs ys u o s r;
    never_fails = λ f bad h. read_or_fails T n (ask n) xs ys bad o f h r;
  })

  pub fails_once : {Left : List S.Token → Type 0} {n : S.Ask} {xs bad : List S.Token} {f : Want S} → Fails T n (ask n) xs f bad → HasOneOutcome T Left n xs
  fails_once {n = n} {xs = xs} {bad = bad} {f = f} h =
      let at = unwanted_at h in
      inr (record {
        front = fault_front h;
        token = at.0;
        more = at.1;
        want = f;
        failed = subst (λ v. Fails T n (ask n) xs f v) at.2 h;
        spells = subst (λ v. xs ≡ fault_front h ++ v) at.2 (fault_spelled h);
        unwanted = at.3;
        only = λ g ys s. let both = one_fault T n (ask n) xs ys bad g f s h in (both.0, both.1 ∙ at.2);
        never_read = λ o ys r. read_or_fails T n (ask n) xs ys bad o f h r;
      })

  pub one_outcome : {n : S.Ask} {xs : List S.Token} → IsDecided T last n (ask n) xs → HasOneOutcome T (AreEnded last) n xs
  one_outcome (reads o ys r ended short) = read_once r ended
  one_outcome (fails f bad h) = fails_once h
