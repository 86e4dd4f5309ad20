-- At a token where a depth is passed some whole goes on, and each that does is past the depth.
use Rattle.std.proofs.Common.{◌≡◌, ℕ, ◌+◌, ◌≤◌, ◌<◌, inl, List, [], ◌∷◌, ◌++◌, Some, refl, sym, ap, ◌∙◌, subst, arith}
use Rattle.std.proofs.lemmas.List.{append_assoc, append_cancel_right}
use Rattle.sp_parse_grammar.specs.Table.{Symbols, Plan, done, call, Table, ask, first, Heads, Reads, read_done, read_take, read_call, Opens}
use Rattle.sp_parse_grammar.specs.Checked.{Checked}
use Rattle.sp_parse_grammar.specs.Depth.{Depths, Gives, Deepens, IsDeep, DeepAt, AreDepths, Deep, deep_here, deep_later, deep_inside, deep_behind, Nests, nests, IsTooDeep}
use Rattle.sp_parse_grammar.proofs.Lists.{behind, next_token, heads}
use Rattle.sp_parse_grammar.proofs.Readings.{front_of, spelled, at_plan, at_tokens, one_reading}
use Rattle.sp_parse_grammar.proofs.Moving.{part_goes_on, head_front, first_same}
use Rattle.sp_parse_grammar.proofs.Completions.{Completed, completed_take, completed_inside, completed_behind, opened}

-- the tokens before the one that is too deep
abbrev pub deep_front : {S : Symbols} {T : Table S} {D : Depths S} {m : S.Ask} {p : Plan S m} {d : ℕ} {xs bad : List S.Token} → Deep T D m p d xs bad → List S.Token
deep_front (deep_here e o less) = []
deep_front (deep_later {x = x} e h) = x ∷ deep_front h
deep_front (deep_inside e less h) = deep_front h
deep_front (deep_behind e r h) = front_of r ++ deep_front h

pub deep_spelled : {S : Symbols} {T : Table S} {D : Depths S} {m : S.Ask} {p : Plan S m} {d : ℕ} {xs bad : List S.Token} (h : Deep T D m p d xs bad) → xs ≡ deep_front h ++ bad
deep_spelled (deep_here e o less) = refl
deep_spelled (deep_later {x = x} e h) = ap (λ v. x ∷ v) (deep_spelled h)
deep_spelled (deep_inside e less h) = deep_spelled h
deep_spelled (deep_behind {bad = bad} e r h) = spelled r ∙ ap (λ v. front_of r ++ v) (deep_spelled h) ∙ sym (append_assoc (front_of r) (deep_front h) bad)

deep_at_tokens : {S : Symbols} {T : Table S} {D : Depths S} {m : S.Ask} {p : Plan S m} {d : ℕ} {xs zs bad : List S.Token} → xs ≡ zs → Deep T D m p d xs bad → Deep T D m p d zs bad
deep_at_tokens {T = T} {D = D} {m = m} {p = p} {d = d} {bad = bad} e h = subst (λ v. Deep T D m p d v bad) e h

-- a part alone that is too deep, inside and behind
pub ask_nests : {S : Symbols} {T : Table S} {D : Depths S} {m n : S.Ask} {k : S.Answer n → Plan S m} {d e : ℕ} {xs bad : List S.Token} → d ≤ D.down m n + e → Nests T D n e xs bad → Deep T D m (call n k) d xs bad
ask_nests less (nests g h) = deep_inside g less h

pub join_nests : {S : Symbols} {T : Table S} {D : Depths S} {m n : S.Ask} {k : S.Answer n → Plan S m} {d : ℕ} {xs ys bad : List S.Token} {a : S.Answer n} → Reads T n (ask n) xs a ys → Deep T D m (k a) d ys bad → Deep T D m (call n k) d xs bad
join_nests (read_call e r read_done) h = deep_behind e r h

module _ {S : Symbols} (T : Table S) (D : Depths S) (each : AreDepths T D) where
  deep_at : (n : S.Ask) (x : S.Token) (q : Plan S n) → T.predict n x ≡ Some q → IsDeep D n x q
  deep_at n x q e = subst (DeepAt D n x) e (each n x)

  -- what a plan gives holds of what it reads
  pub given : {m : S.Ask} {p : Plan S m} {xs ys : List S.Token} {o : S.Answer m} → Reads T m p xs o ys → (P : S.Answer m → Type 0) → Gives D p P → P o
  given read_done P g = g
  given (read_take {x = x} e r) P g = given r P (g x e)
  given (read_call {n = n} {q = q} {x = x} {a = a} e r s) P g = given s P (g a (given r (λ o. D.low n ≤ D.depth n o) (deep_at n x q e).low))

  -- What is read is past the depth.
  pub too_deep : {m : S.Ask} {p : Plan S m} {d : ℕ} {xs bad ys : List S.Token} {o : S.Answer m} → Deep T D m p d xs bad → Deepens D p → Reads T m p xs o ys → d < D.depth m o
  too_deep {m = m} {o = o} (deep_here {q = q} {x = x} e opens less) deepens r =
      let deep = given r (λ v. D.least m x ≤ D.depth m v) (deep_at m x q e).least in
      omega arith
  too_deep (deep_later {x = x} e h) deepens (read_take g r) = too_deep h (deepens x g) r
  too_deep {m = m} {d = d} {o = o} (deep_inside {n = n} {q = q} {e = e} {x = x} g less h) deepens (read_call {q = q'} {a = a} g' r s) =
      let same : q' ≡ q = cc in
      let low = given r (λ v. D.low n ≤ D.depth n v) (deep_at n x q' g').low in
      let inner = too_deep h (deep_at n x q g).deepens (at_plan same r) in
      let outer = given s (λ v. D.down m n + D.depth n a ≤ D.depth m v) (deepens a low).0 in
      omega arith
  too_deep {m = m} (deep_behind {n = n} {k = k} {q = q} {x = x} {xs = xs} {ys = mid} {a = a} g r h) deepens (read_call {q = q'} {ys = mid'} {a = b} g' s s') =
      let same : q' ≡ q = cc in
      let low = given r (λ v. D.low n ≤ D.depth n v) (deep_at n x q g).low in
      let part = one_reading T n q (x ∷ xs) mid mid' a b r (at_plan same s) in
      too_deep h (deepens a low).1 (at_plan (ap k (sym part.0)) (at_tokens (sym part.1) s'))

  too_deep_ask : {n : S.Ask} {d : ℕ} {xs bad ys : List S.Token} {a : S.Answer n} → Nests T D n d xs bad → Reads T n (ask n) xs a ys → d < D.depth n a
  too_deep_ask {n = n} (nests {q = q} {x = x} e h) (read_call {q = q'} g r read_done) =
      let same : q' ≡ q = cc in
      too_deep h (deep_at n x q e).deepens (at_plan same r)

module _ {S : Symbols} (T : Table S) (c : Checked T) (D : Depths S) where
  on_inside : {m : S.Ask} (n : S.Ask) (k : S.Answer n → Plan S m) (q : Plan S n) (x : S.Token) (xs front bad : List S.Token) (b : S.Token) → T.predict n x ≡ Some q → x ∷ xs ≡ front ++ bad → Heads bad b → Completed T n q (front ++ b ∷ []) → Completed T m (call n k) (front ++ b ∷ [])
  on_inside n k q x xs [] bad b e same head part = completed_inside T c n k q b [] (head_front T c n q x xs [] bad b e same head) part
  on_inside n k q x xs (v ∷ front) bad b e same head part = completed_inside T c n k q v (front ++ b ∷ []) (head_front T c n q x xs (v ∷ front) bad b e same head) part

  on_behind : {m : S.Ask} (n : S.Ask) (k : S.Answer n → Plan S m) {q : Plan S n} {x : S.Token} {xs mid : List S.Token} {a : S.Answer n} → T.predict n x ≡ Some q → (r : Reads T n q (x ∷ xs) a mid) (front bad : List S.Token) (b : S.Token) → mid ≡ front ++ bad → Heads bad b → Completed T m (k a) (front ++ b ∷ []) → Completed T m (call n k) (front_of r ++ (front ++ b ∷ []))
  on_behind n k {mid = mid} e r [] bad b same head later = completed_behind T c n k e r b [] (first_same T c [] bad mid b same head) later
  on_behind n k {mid = mid} e r (v ∷ front) bad b same head later = completed_behind T c n k e r v (front ++ b ∷ []) (heads mid v (front ++ bad) same) later

  -- The tokens up to the one that is too deep, itself included, can be completed.
  pub deep_on : {m : S.Ask} {p : Plan S m} {d : ℕ} {xs bad : List S.Token} (h : Deep T D m p d xs bad) (b : S.Token) → Heads bad b → Completed T m p (deep_front h ++ b ∷ [])
  deep_on (deep_here {m = m} {q = q} {x = x} e opens less) b head = opened T c m q b (subst (λ v. Opens T m q v) head opens)
  deep_on (deep_later {c = d} {k = k} {x = x} e h) b head = completed_take T c d k x (deep_front h ++ b ∷ []) e (deep_on h b head)
  deep_on (deep_inside {n = n} {k = k} {q = q} {x = x} {xs = xs} {bad = bad} e less h) b head = on_inside n k q x xs (deep_front h) bad b e (deep_spelled h) head (deep_on h b head)
  deep_on (deep_behind {m = m} {n = n} {k = k} {bad = bad} e r h) b head =
      subst (λ v. Completed T m (call n k) v) (sym (append_assoc (front_of r) (deep_front h) (b ∷ []))) (on_behind n k e r (deep_front h) bad b (deep_spelled h) head (deep_on h b head))

  -- That a depth is passed hangs on the tokens up to there alone.
  pub deep_move : {m : S.Ask} {p : Plan S m} {d : ℕ} {xs bad : List S.Token} (h : Deep T D m p d xs bad) (b : S.Token) → Heads bad b → (zs : List S.Token) → Deep T D m p d (deep_front h ++ b ∷ zs) (b ∷ zs)
  deep_move (deep_here {m = m} {q = q} {d = d} {x = x} e opens less) b head zs =
      deep_here (subst (λ v. T.predict m v ≡ Some q) head e) (subst (λ v. Opens T m q v) head opens) (subst (λ v. d < D.least m v) head less)
  deep_move (deep_later e h) b head zs = deep_later e (deep_move h b head zs)
  deep_move (deep_inside {n = n} {q = q} {x = x} {xs = xs} {bad = bad} e less h) b head zs =
      let front = deep_front h in
      deep_at_tokens (sym (next_token front b zs)) (deep_inside (head_front T c n q x xs front bad b e (deep_spelled h) head) less (deep_at_tokens (next_token front b zs) (deep_move h b head zs)))
  deep_move (deep_behind {ys = mid} {bad = bad} e r h) b head zs =
      let front = deep_front h in
      let w = first front b in
      let us = behind front b zs in
      let part = part_goes_on T c e r w (inl (first_same T c front bad mid b (deep_spelled h) head)) us in
      let text : front_of r ++ w ∷ us ≡ (front_of r ++ front) ++ b ∷ zs = ap (λ v. front_of r ++ v) (sym (next_token front b zs)) ∙ sym (append_assoc (front_of r) front (b ∷ zs)) in
      deep_at_tokens text (join_nests part (deep_at_tokens (next_token front b zs) (deep_move h b head zs)))

  stays_at : (n : S.Ask) (d : ℕ) (xs bad front more others : List S.Token) (x : S.Token) → Nests T D n d xs bad → xs ≡ front ++ x ∷ more → bad ≡ x ∷ more → Nests T D n d (front ++ x ∷ others) (x ∷ others)
  stays_at n d xs bad front more others x (nests {q = q} {x = y} {xs = ys} e h) text here =
      let same : deep_front h ≡ front = append_cancel_right (deep_front h) front (x ∷ more) (ap (λ v. deep_front h ++ v) (sym here) ∙ sym (deep_spelled h) ∙ text) in
      let head = heads bad x more here in
      let moved = deep_move h x head others in
      let nested = nests (head_front T c n q y ys (deep_front h) bad x e (deep_spelled h) head) (deep_at_tokens (next_token (deep_front h) x others) moved) in
      subst (λ v. Nests T D n d v (x ∷ others)) (sym (next_token (deep_front h) x others) ∙ ap (λ t. t ++ x ∷ others) same) nested

  -- That a depth is passed stays whatever stands behind that token.
  pub depth_stays : (n : S.Ask) (d : ℕ) (front more others : List S.Token) (x : S.Token) → Nests T D n d (front ++ x ∷ more) (x ∷ more) → Nests T D n d (front ++ x ∷ others) (x ∷ others)
  depth_stays n d front more others x h = stays_at n d (front ++ x ∷ more) (x ∷ more) front more others x h refl refl

  nesting_at : AreDepths T D → (n : S.Ask) (d : ℕ) (xs bad front more : List S.Token) (x z : S.Token) → T.Stops n z → Nests T D n d xs bad → xs ≡ front ++ x ∷ more → bad ≡ x ∷ more → IsTooDeep T D n d (front ++ x ∷ []) z
  nesting_at each n d xs bad front more x z stops (nests {q = q} {x = y} {xs = ys} e h) text here =
      let same : deep_front h ≡ front = append_cancel_right (deep_front h) front (x ∷ more) (ap (λ v. deep_front h ++ v) (sym here) ∙ sym (deep_spelled h) ∙ text) in
      let head = heads bad x more here in
      let completed = subst (λ v. Completed T n (ask n) (v ++ x ∷ [])) same (on_inside n (λ a. done a) q y ys (deep_front h) bad x e (deep_spelled h) head (deep_on h x head)) in
      record {
        goes_on = record {
          rest = completed.rest;
          answer = completed.answer;
          whole = record { read = λ zs. at_tokens (sym (append_assoc (front ++ x ∷ []) completed.rest (z ∷ zs))) (completed.reads z (λ a. (stops, tt)) zs) };
        };
        deeper = λ rest a w longer.
            let moved = deep_move h x head (rest ++ w ∷ []) in
            let full : deep_front h ++ (x ∷ (rest ++ w ∷ [])) ≡ ((front ++ x ∷ []) ++ rest) ++ w ∷ [] =
            ap (λ t. t ++ (x ∷ (rest ++ w ∷ []))) same ∙ ap (λ t. front ++ t) (sym (append_assoc (x ∷ []) rest (w ∷ []))) ∙ sym (append_assoc front (x ∷ rest) (w ∷ [])) ∙ ap (λ t. t ++ w ∷ []) (sym (append_assoc front (x ∷ []) rest)) in
            let nested = nests (head_front T c n q y ys (deep_front h) bad x e (deep_spelled h) head) (deep_at_tokens (next_token (deep_front h) x (rest ++ w ∷ [])) moved) in
            let there = subst (λ v. Nests T D n d v (x ∷ (rest ++ w ∷ []))) (sym (next_token (deep_front h) x (rest ++ w ∷ [])) ∙ full) nested in
            too_deep_ask T D each there (longer.read []);
      }

  -- Some whole begins with the tokens up to the one that is too deep, and each that does is past the depth.
  pub nesting : AreDepths T D → (n : S.Ask) (d : ℕ) (front more : List S.Token) (x z : S.Token) → T.Stops n z → Nests T D n d (front ++ x ∷ more) (x ∷ more) → IsTooDeep T D n d (front ++ x ∷ []) z
  nesting each n d front more x z stops h = nesting_at each n d (front ++ x ∷ more) (x ∷ more) front more x z stops h refl refl
