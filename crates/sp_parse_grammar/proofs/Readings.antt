-- One reading, one fault, and not both.
use Rattle.std.proofs.Common.{◌≡◌, List, [], ◌∷◌, ◌++◌, refl, sym, ap, ◌∙◌, subst}
use Rattle.std.proofs.lemmas.List.{append_assoc}
use Rattle.sp_parse_grammar.specs.Table.{Symbols, Plan, call, Table, ask, Reads, read_done, read_take, read_call, Want, Fails, fail_take, fail_later, fail_ask, fail_inside, fail_behind}

-- the tokens that are read
abbrev pub front_of : {S : Symbols} {T : Table S} {m : S.Ask} {p : Plan S m} {xs ys : List S.Token} {o : S.Answer m} → Reads T m p xs o ys → List S.Token
front_of read_done = []
front_of (read_take {x = x} e r) = x ∷ front_of r
front_of (read_call e r s) = front_of r ++ front_of s

-- the tokens before the failing one
abbrev pub fault_front : {S : Symbols} {T : Table S} {m : S.Ask} {p : Plan S m} {xs bad : List S.Token} {f : Want S} → Fails T m p xs f bad → List S.Token
fault_front (fail_take e) = []
fault_front (fail_later {x = x} e h) = x ∷ fault_front h
fault_front (fail_ask e) = []
fault_front (fail_inside e h) = fault_front h
fault_front (fail_behind e r h) = front_of r ++ fault_front h

pub spelled : {S : Symbols} {T : Table S} {m : S.Ask} {p : Plan S m} {xs ys : List S.Token} {o : S.Answer m} (r : Reads T m p xs o ys) → xs ≡ front_of r ++ ys
spelled read_done = refl
spelled (read_take {x = x} e r) = ap (λ v. x ∷ v) (spelled r)
spelled (read_call {zs = zs} e r s) = spelled r ∙ ap (λ v. front_of r ++ v) (spelled s) ∙ sym (append_assoc (front_of r) (front_of s) zs)

pub fault_spelled : {S : Symbols} {T : Table S} {m : S.Ask} {p : Plan S m} {xs bad : List S.Token} {f : Want S} (h : Fails T m p xs f bad) → xs ≡ fault_front h ++ bad
fault_spelled (fail_take e) = refl
fault_spelled (fail_later {x = x} e h) = ap (λ v. x ∷ v) (fault_spelled h)
fault_spelled (fail_ask e) = refl
fault_spelled (fail_inside e h) = fault_spelled h
fault_spelled (fail_behind {bad = bad} e r h) = spelled r ∙ ap (λ v. front_of r ++ v) (fault_spelled h) ∙ sym (append_assoc (front_of r) (fault_front h) bad)

-- the plan, the answer and the tokens of a reading may be written otherwise
pub at_plan : {S : Symbols} {T : Table S} {m : S.Ask} {p q : Plan S m} {xs ys : List S.Token} {o : S.Answer m} → p ≡ q → Reads T m p xs o ys → Reads T m q xs o ys
at_plan {T = T} {m = m} {xs = xs} {ys = ys} {o = o} e r = subst (λ v. Reads T m v xs o ys) e r

pub at_tokens : {S : Symbols} {T : Table S} {m : S.Ask} {p : Plan S m} {xs zs ys : List S.Token} {o : S.Answer m} → xs ≡ zs → Reads T m p xs o ys → Reads T m p zs o ys
at_tokens {T = T} {m = m} {p = p} {ys = ys} {o = o} e r = subst (λ v. Reads T m p v o ys) e r

pub at_answer : {S : Symbols} {T : Table S} {m : S.Ask} {p : Plan S m} {xs ys : List S.Token} {o u : S.Answer m} → o ≡ u → Reads T m p xs o ys → Reads T m p xs u ys
at_answer {T = T} {m = m} {p = p} {xs = xs} {ys = ys} e r = subst (λ v. Reads T m p xs v ys) e r

pub at_rest : {S : Symbols} {T : Table S} {m : S.Ask} {p : Plan S m} {xs ys zs : List S.Token} {o : S.Answer m} → ys ≡ zs → Reads T m p xs o ys → Reads T m p xs o zs
at_rest {T = T} {m = m} {p = p} {xs = xs} {o = o} e r = subst (λ v. Reads T m p xs o v) e r

pub fault_at_tokens : {S : Symbols} {T : Table S} {m : S.Ask} {p : Plan S m} {xs zs bad : List S.Token} {f : Want S} → xs ≡ zs → Fails T m p xs f bad → Fails T m p zs f bad
fault_at_tokens {T = T} {m = m} {p = p} {bad = bad} {f = f} e r = subst (λ v. Fails T m p v f bad) e r

-- a reading of a part alone, and of what is behind it
pub join : {S : Symbols} {T : Table S} {m n : S.Ask} {k : S.Answer n → Plan S m} {xs ys zs : List S.Token} {a : S.Answer n} {o : S.Answer m} → Reads T n (ask n) xs a ys → Reads T m (k a) ys o zs → Reads T m (call n k) xs o zs
join (read_call e r read_done) s = read_call e r s

-- a fault of a part alone, and one behind it
pub ask_fails : {S : Symbols} {T : Table S} {m n : S.Ask} {k : S.Answer n → Plan S m} {xs bad : List S.Token} {f : Want S} → Fails T n (ask n) xs f bad → Fails T m (call n k) xs f bad
ask_fails (fail_ask e) = fail_ask e
ask_fails (fail_inside e h) = fail_inside e h
ask_fails (fail_behind e r h) = elim h [ ]

pub join_fails : {S : Symbols} {T : Table S} {m n : S.Ask} {k : S.Answer n → Plan S m} {xs ys bad : List S.Token} {a : S.Answer n} {f : Want S} → Reads T n (ask n) xs a ys → Fails T m (k a) ys f bad → Fails T m (call n k) xs f bad
join_fails (read_call e r read_done) h = fail_behind e r h

module _ {S : Symbols} (T : Table S) where
  -- the answer and the tokens left are determined
  pub one_reading : (m : S.Ask) (p : Plan S m) (xs ys zs : List S.Token) (o u : S.Answer m) → Reads T m p xs o ys → Reads T m p xs u zs → (o ≡ u) × (ys ≡ zs)
  one_reading m p xs ys zs o u read_done read_done = (refl, refl)
  one_reading m p xs ys zs o u (read_take {k = k} {x = x} {xs = xs'} e r) (read_take g s) = one_reading m (k x) xs' ys zs o u r s
  one_reading m p xs ys zs o u (read_call {n = n} {k = k} {q = q} {x = x} {xs = xs'} {ys = mid} {a = a} e r r') (read_call {q = q'} {ys = mid'} {a = b} g s s') =
      let same : q' ≡ q = cc in
      let part = one_reading n q (x ∷ xs') mid mid' a b r (at_plan same s) in
      one_reading m (k a) mid ys zs o u r' (at_plan (ap k (sym part.0)) (at_tokens (sym part.1) s'))

  -- what is read doesn't fail
  pub read_or_fails : (m : S.Ask) (p : Plan S m) (xs ys bad : List S.Token) (o : S.Answer m) (f : Want S) → Fails T m p xs f bad → Reads T m p xs o ys → ⊥
  read_or_fails m p xs ys bad o f (fail_take e) (read_take g s) = cc
  read_or_fails m p xs ys bad o f (fail_later {k = k} {x = x} {xs = xs'} e h) (read_take g s) = read_or_fails m (k x) xs' ys bad o f h s
  read_or_fails m p xs ys bad o f (fail_ask e) (read_call g s s') = cc
  read_or_fails m p xs ys bad o f (fail_inside {n = n} {q = q} {x = x} {xs = xs'} e h) (read_call {q = q'} {ys = mid} {a = a} g s s') =
      let same : q' ≡ q = cc in
      read_or_fails n q (x ∷ xs') mid bad a f h (at_plan same s)
  read_or_fails m p xs ys bad o f (fail_behind {n = n} {k = k} {q = q} {x = x} {xs = xs'} {ys = mid} {a = a} e r h) (read_call {q = q'} {ys = mid'} {a = b} g s s') =
      let same : q' ≡ q = cc in
      let part = one_reading n q (x ∷ xs') mid mid' a b r (at_plan same s) in
      read_or_fails m (k a) mid ys bad o f h (at_plan (ap k (sym part.0)) (at_tokens (sym part.1) s'))

  -- the failing token is determined, and what was wanted there
  pub one_fault : (m : S.Ask) (p : Plan S m) (xs bad bad' : List S.Token) (f g : Want S) → Fails T m p xs f bad → Fails T m p xs g bad' → (f ≡ g) × (bad ≡ bad')
  one_fault m p xs bad bad' f g (fail_take e) (fail_take e') = (refl, refl)
  one_fault m p xs bad bad' f g (fail_take e) (fail_later e' h) = absurd cc
  one_fault m p xs bad bad' f g (fail_later e h) (fail_take e') = absurd cc
  one_fault m p xs bad bad' f g (fail_later {k = k} {x = x} {xs = xs'} e h) (fail_later e' h') = one_fault m (k x) xs' bad bad' f g h h'
  one_fault m p xs bad bad' f g (fail_ask e) (fail_ask e') = (refl, refl)
  one_fault m p xs bad bad' f g (fail_ask e) (fail_inside e' h) = absurd cc
  one_fault m p xs bad bad' f g (fail_ask e) (fail_behind e' r h) = absurd cc
  one_fault m p xs bad bad' f g (fail_inside e h) (fail_ask e') = absurd cc
  one_fault m p xs bad bad' f g (fail_inside {n = n} {q = q} {x = x} {xs = xs'} e h) (fail_inside {q = q'} e' h') =
      let same : q' ≡ q = cc in
      one_fault n q (x ∷ xs') bad bad' f g h (subst (λ v. Fails T n v (x ∷ xs') g bad') same h')
  one_fault m p xs bad bad' f g (fail_inside {n = n} {q = q} {x = x} {xs = xs'} e h) (fail_behind {q = q'} {ys = mid} {a = a} e' r h') =
      let same : q' ≡ q = cc in
      absurd (read_or_fails n q (x ∷ xs') mid bad a f h (at_plan same r))
  one_fault m p xs bad bad' f g (fail_behind e r h) (fail_ask e') = absurd cc
  one_fault m p xs bad bad' f g (fail_behind {n = n} {q = q} {x = x} {xs = xs'} {ys = mid} {a = a} e r h) (fail_inside {q = q'} e' h') =
      let same : q ≡ q' = cc in
      absurd (read_or_fails n q' (x ∷ xs') mid bad' a g h' (at_plan same r))
  one_fault m p xs bad bad' f g (fail_behind {n = n} {k = k} {q = q} {x = x} {xs = xs'} {ys = mid} {a = a} e r h) (fail_behind {q = q'} {ys = mid'} {a = b} e' s h') =
      let same : q' ≡ q = cc in
      let part = one_reading n q (x ∷ xs') mid mid' a b r (at_plan same s) in
      one_fault m (k a) mid bad bad' f g h (subst (λ v. Fails T m (k v) mid g bad') (sym part.0) (fault_at_tokens (sym part.1) h'))
