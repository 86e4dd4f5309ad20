-- No whole ends before the failing token, and what is read is the longest.
use Rattle.std.proofs.Common.{◌≡◌, ◌≢◌, ◌⊎◌, inl, inr, List, [], ◌∷◌, ◌++◌, Some, refl, sym, ap, ◌∙◌, subst}
use Rattle.std.proofs.lemmas.List.{append_assoc, append_cancel_right, append-nil}
use Rattle.sp_parse_grammar.specs.Table.{Symbols, Plan, call, Table, ask, rest_of, Reads, read_done, read_take, read_call, Want, Fails, fail_take, fail_later, fail_ask, fail_inside, fail_behind, Opens, open_take, open_call}
use Rattle.sp_parse_grammar.specs.Whole.{IsWhole, BeginsWhole, IsFailing}
use Rattle.sp_parse_grammar.specs.Checked.{Even, Checked}
use Rattle.sp_parse_grammar.proofs.Lists.{nil_or_cons, left_nil, right_nil, no_front}
use Rattle.sp_parse_grammar.proofs.Readings.{front_of, fault_front, spelled, fault_spelled, at_plan, at_tokens, at_rest, fault_at_tokens, one_reading, read_or_fails}
use Rattle.sp_parse_grammar.proofs.Moving.{fine, stuck, hollow, goes_on, move, fail_move}
use Rattle.sp_parse_grammar.proofs.Completions.{Completed, viable}

module _ {S : Symbols} (T : Table S) (c : Checked T) where
  -- two readings of common tokens read the same of them, where those that read them all agree
  agree : (m : S.Ask) (p : Plan S m) (xs mid ws mid' : List S.Token) (o u : S.Answer m) (r : Reads T m p xs o mid) (s : Reads T m p ws u mid') (f g ys zs : List S.Token)
      → mid ≡ f ++ ys → mid' ≡ g ++ zs → ws ≡ (front_of r ++ f) ++ zs → (ws ≡ front_of r ++ mid' → o ≡ u) → (o ≡ u) × (f ≡ g)
  agree m p xs mid ws mid' o u r s (v ∷ f) g ys zs e e' text both =
      let moved = goes_on T c r v (f ++ ys) (f ++ zs) e in
      let there = one_reading T m p ws (v ∷ (f ++ zs)) mid' o u (at_tokens (sym (append_assoc (front_of r) (v ∷ f) zs) ∙ sym text) moved) s in
      (there.0, append_cancel_right (v ∷ f) g zs (there.1 ∙ e'))
  agree m p xs mid ws mid' o u r s [] [] ys zs e e' text both =
      let short : ws ≡ front_of r ++ mid' = text ∙ ap (λ t. t ++ zs) (append-nil (front_of r)) ∙ ap (λ t. front_of r ++ t) (sym e') in
      (both short, refl)
  agree m p xs mid ws mid' o u r s [] (v ∷ g) ys zs e e' text both =
      let moved = goes_on T c s v (g ++ zs) (g ++ ys) e' in
      let longer : front_of r ≡ front_of s ++ (v ∷ g) =
      append_cancel_right (front_of r) (front_of s ++ (v ∷ g)) zs (ap (λ t. t ++ zs) (sym (append-nil (front_of r))) ∙ sym text ∙ spelled s ∙ ap (λ t. front_of s ++ t) e' ∙ sym (append_assoc (front_of s) (v ∷ g) zs)) in
      let back : front_of s ++ (v ∷ (g ++ ys)) ≡ xs = sym (append_assoc (front_of s) (v ∷ g) ys) ∙ ap (λ t. t ++ ys) (sym longer) ∙ ap (λ t. front_of r ++ t) (sym e) ∙ sym (spelled r) in
      let there = one_reading T m p xs mid (v ∷ (g ++ ys)) o u r (at_tokens back moved) in
      (there.0, append_cancel_right [] (v ∷ g) ys (sym e ∙ there.1))

  -- the first token of both, where some is read
  first_of_both : (n : S.Ask) (x y : S.Token) (xs us front ys zs : List S.Token) (q q' : Plan S n) → x ∷ xs ≡ front ++ ys → y ∷ us ≡ front ++ zs → front ≢ [] → T.predict n x ≡ Some q → T.predict n y ≡ Some q' → q' ≡ q
  first_of_both n x y xs us [] ys zs q q' e e' some g g' = absurd (some refl)
  first_of_both n x y xs us (v ∷ front) ys zs q q' e e' some g g' =
      let one : x ≡ v = cc in
      let other : y ≡ v = cc in
      cc

  one_answer_call : (m n : S.Ask) (k : S.Answer n → Plan S m) (q q' : Plan S n) (x y : S.Token) (xs mid ys us mid' zs : List S.Token) (a b : S.Answer n) (o u : S.Answer m)
      (g : T.predict n x ≡ Some q) (r : Reads T n q (x ∷ xs) a mid) (r' : Reads T m (k a) mid o ys) (g' : T.predict n y ≡ Some q') (s : Reads T n q' (y ∷ us) b mid') (s' : Reads T m (k b) mid' u zs)
      → y ∷ us ≡ (front_of r ++ front_of r') ++ zs
      → ((ws zs' : List S.Token) (b' : S.Answer n) → Reads T n q ws b' zs' → ws ≡ front_of r ++ zs' → a ≡ b') → ((ws zs' : List S.Token) (u' : S.Answer m) → Reads T m (k a) ws u' zs' → ws ≡ front_of r' ++ zs' → o ≡ u')
      → (front_of r ++ front_of r' ≡ []) ⊎ ((v : S.Token) × (vs : List S.Token) × (front_of r ++ front_of r' ≡ v ∷ vs)) → o ≡ u
  one_answer_call m n k q q' x y xs mid ys us mid' zs a b o u g r r' g' s s' e one later (inl none) =
      let whole : Reads T m (call n k) (x ∷ xs) o ys = read_call g r r' in
      let other : Reads T m (call n k) (y ∷ us) u zs = read_call g' s s' in
      let empty : zs ≡ y ∷ us = ap (λ t. t ++ zs) (sym none) ∙ sym e in
      (hollow T c whole none).1 ∙ sym (hollow T c other (no_front (front_of other) zs (empty ∙ spelled other))).1
  one_answer_call m n k q q' x y xs mid ys us mid' zs a b o u g r r' g' s s' e one later (inr (v, vs, some)) =
      let whole : Reads T m (call n k) (x ∷ xs) o ys = read_call g r r' in
      let same = first_of_both n x y xs us (front_of r ++ front_of r') ys zs q q' (spelled whole) e (λ none. cc) g g' in
      let part = at_plan same s in
      let agreed = agree n q (x ∷ xs) mid (y ∷ us) mid' a b r part (front_of r') (front_of s') ys zs (spelled r') (spelled s') e (one (y ∷ us) mid' b part) in
      later mid' zs u (at_plan (ap k (sym agreed.0)) s') (spelled s' ∙ ap (λ t. t ++ zs) (sym agreed.1))

  -- The answer hangs on the tokens that are read alone.
  pub one_answer : {m : S.Ask} {p : Plan S m} {xs ys : List S.Token} {o : S.Answer m} (r : Reads T m p xs o ys) (ws zs : List S.Token) (u : S.Answer m) → Reads T m p ws u zs → ws ≡ front_of r ++ zs → o ≡ u
  one_answer read_done ws zs u read_done e = refl
  one_answer (read_take {k = k} {x = x} g r) ws zs u (read_take {x = y} {xs = us} g' s) e =
      let head : y ≡ x = cc in
      let tail : us ≡ front_of r ++ zs = cc in
      one_answer r us zs u (at_plan (ap k head) s) tail
  one_answer {m = m} {ys = ys} {o = o} (read_call {n = n} {k = k} {q = q} {x = x} {xs = xs} {ys = mid} {a = a} g r r') ws zs u (read_call {q = q'} {x = y} {xs = us} {ys = mid'} {a = b} g' s s') e =
      one_answer_call m n k q q' x y xs mid ys us mid' zs a b o u g r r' g' s s' e
      (λ ws' zs' b' t short. one_answer r ws' zs' b' t short)
      (λ ws' zs' u' t short. one_answer r' ws' zs' u' t short)
      (nil_or_cons (front_of r ++ front_of r'))

  -- ---- nothing before the failing token is a whole

  -- a plan that takes the token doesn't read nothing there, and doesn't fail there
  opens_reads : (m : S.Ask) (p : Plan S m) (x : S.Token) (xs ys : List S.Token) (o : S.Answer m) → Opens T m p x → (r : Reads T m p (x ∷ xs) o ys) → front_of r ≢ []
  opens_reads m p x xs ys o (open_take e) (read_take g r) none = cc
  opens_reads m p x xs ys o (open_call {n = n} {q = q} e h) (read_call {q = q'} {ys = mid} {a = a} g r s) none =
      let same : q ≡ q' = cc in
      opens_reads n q' x xs mid a (subst (λ v. Opens T n v x) same h) r (left_nil (front_of r) (front_of s) none)

  opens_fails : (m : S.Ask) (p : Plan S m) (x : S.Token) (xs bad : List S.Token) (f : Want S) → Opens T m p x → (h : Fails T m p (x ∷ xs) f bad) → fault_front h ≢ []
  opens_fails m p x xs bad f (open_take e) (fail_take g) none = cc
  opens_fails m p x xs bad f (open_take e) (fail_later g h) none = cc
  opens_fails m p x xs bad f (open_call e o) (fail_ask g) none = cc
  opens_fails m p x xs bad f (open_call {n = n} {q = q} e o) (fail_inside {q = q'} g h) none =
      let same : q ≡ q' = cc in
      opens_fails n q' x xs bad f (subst (λ v. Opens T n v x) same o) h none
  opens_fails m p x xs bad f (open_call {n = n} {q = q} e o) (fail_behind {q = q'} {ys = mid} {a = a} g r h) none =
      let same : q ≡ q' = cc in
      opens_reads n q' x xs mid a (subst (λ v. Opens T n v x) same o) r (left_nil (front_of r) (fault_front h) none)

  -- a plan that may be read from nothing doesn't fail at its first token
  quiet : (m : S.Ask) (p : Plan S m) (xs bad : List S.Token) (f : Want S) → Even T p → rest_of T p ≡ [] → (h : Fails T m p xs f bad) → fault_front h ≢ []
  quiet m p xs bad f even empty (fail_take e) none = cc
  quiet m p xs bad f even empty (fail_later e h) none = cc
  quiet m p xs bad f even empty (fail_ask {n = n} {k = k} {x = x} e) none = stuck T c n x e (left_nil (T.ending n) (rest_of T (k (T.value n))) empty)
  quiet m p xs bad f even empty (fail_inside {n = n} {k = k} {q = q} {x = x} {xs = xs'} e h) none =
      let hollow_ask = left_nil (T.ending n) (rest_of T (k (T.value n))) empty in
      elim ((fine T c n x q e).exact hollow_ask) [
        | inl shortest ↦ quiet n q (x ∷ xs') bad f (fine T c n x q e).even shortest h none
        | inr takes ↦ opens_fails n q x xs' bad f takes h none
      ]
  quiet m p xs bad f even empty (fail_behind {n = n} {k = k} {ys = mid} {a = a} e r h) none =
      let rest = right_nil (T.ending n) (rest_of T (k (T.value n))) empty in
      quiet m (k a) mid bad f (even a).1 ((even (T.value n)).0 a rest) h (right_nil (front_of r) (fault_front h) none)

  -- a part that fails at its first token is no part that is read from nothing
  none_at_first : (m n : S.Ask) (k : S.Answer n → Plan S m) (q : Plan S n) (x : S.Token) (xs bad ws : List S.Token) (f : Want S) (o : S.Answer m) → T.predict n x ≡ Some q → (h : Fails T n q (x ∷ xs) f bad) → fault_front h ≡ [] → (s : Reads T m (call n k) ws o ws) → ⊥
  none_at_first m n k q x xs bad ws f o e h none s =
      let empty = left_nil (T.ending n) (rest_of T (k (T.value n))) (hollow T c s (no_front (front_of s) ws (spelled s))).0 in
      elim ((fine T c n x q e).exact empty) [
        | inl shortest ↦ quiet n q (x ∷ xs) bad f (fine T c n x q e).even shortest h none
        | inr takes ↦ opens_fails n q x xs bad f takes h none
      ]

  -- a part that fails later isn't read from the tokens before, nor from some of them
  none_inside : (m n : S.Ask) (k : S.Answer n → Plan S m) (q q' : Plan S n) (x y : S.Token) (xs bad us mid zs : List S.Token) (f : Want S) (b : S.Answer n) (o : S.Answer m)
      (e : T.predict n x ≡ Some q) (h : Fails T n q (x ∷ xs) f bad) (g : T.predict n y ≡ Some q') (s : Reads T n q' (y ∷ us) b mid) (s' : Reads T m (k b) mid o zs) → y ∷ us ≡ fault_front h ++ zs
      → ((ws zs' : List S.Token) (b' : S.Answer n) → Reads T n q ws b' zs' → ws ≡ fault_front h ++ zs' → ⊥)
      → (fault_front h ≡ []) ⊎ ((v : S.Token) × (vs : List S.Token) × (fault_front h ≡ v ∷ vs)) → (front_of s' ≡ []) ⊎ ((v : S.Token) × (vs : List S.Token) × (front_of s' ≡ v ∷ vs)) → ⊥
  none_inside m n k q q' x y xs bad us mid zs f b o e h g s s' text later (inl none) side =
      let whole : Reads T m (call n k) (y ∷ us) o zs = read_call g s s' in
      let same : y ∷ us ≡ zs = text ∙ ap (λ t. t ++ zs) none in
      none_at_first m n k q x xs bad zs f o e h none (at_tokens same whole)
  none_inside m n k q q' x y xs bad us mid zs f b o e h g s s' text later (inr (v, vs, some)) (inl none) =
      let same = first_of_both n x y xs us (fault_front h) bad zs q q' (fault_spelled h) text (λ empty. cc) e g in
      later (y ∷ us) zs b (at_rest (spelled s' ∙ ap (λ t. t ++ zs) none) (at_plan same s)) text
  none_inside m n k q q' x y xs bad us mid zs f b o e h g s s' text later (inr (v, vs, some)) (inr (w, rest, more)) =
      let same = first_of_both n x y xs us (fault_front h) bad zs q q' (fault_spelled h) text (λ empty. cc) e g in
      let part = at_plan same s in
      let next : mid ≡ (w ∷ rest) ++ zs = spelled s' ∙ ap (λ t. t ++ zs) more in
      let there : y ∷ us ≡ (front_of part ++ (w ∷ rest)) ++ zs = spelled part ∙ ap (λ t. front_of part ++ t) next ∙ sym (append_assoc (front_of part) (w ∷ rest) zs) in
      let fronts : front_of part ++ (w ∷ rest) ≡ fault_front h = append_cancel_right (front_of part ++ (w ∷ rest)) (fault_front h) zs (sym there ∙ text) in
      let moved = goes_on T c part w (rest ++ zs) (rest ++ bad) next in
      let back : front_of part ++ (w ∷ (rest ++ bad)) ≡ x ∷ xs = sym (append_assoc (front_of part) (w ∷ rest) bad) ∙ ap (λ t. t ++ bad) fronts ∙ sym (fault_spelled h) in
      read_or_fails T n q (x ∷ xs) (w ∷ (rest ++ bad)) bad b f h (at_tokens back moved)

  none_behind : (m n : S.Ask) (k : S.Answer n → Plan S m) (q q' : Plan S n) (x y : S.Token) (xs mid bad us mid' zs : List S.Token) (f : Want S) (a b : S.Answer n) (o : S.Answer m)
      (e : T.predict n x ≡ Some q) (r : Reads T n q (x ∷ xs) a mid) (h : Fails T m (k a) mid f bad) (g : T.predict n y ≡ Some q') (s : Reads T n q' (y ∷ us) b mid') (s' : Reads T m (k b) mid' o zs)
      → y ∷ us ≡ (front_of r ++ fault_front h) ++ zs
      → ((ws zs' : List S.Token) (o' : S.Answer m) → Reads T m (k a) ws o' zs' → ws ≡ fault_front h ++ zs' → ⊥)
      → (front_of r ++ fault_front h ≡ []) ⊎ ((v : S.Token) × (vs : List S.Token) × (front_of r ++ fault_front h ≡ v ∷ vs)) → ⊥
  none_behind m n k q q' x y xs mid bad us mid' zs f a b o e r h g s s' text later (inl none) =
      let whole : Reads T m (call n k) (y ∷ us) o zs = read_call g s s' in
      let empty : zs ≡ y ∷ us = ap (λ t. t ++ zs) (sym none) ∙ sym text in
      let nothing = no_front (front_of whole) zs (empty ∙ spelled whole) in
      let first_part = hollow T c r (left_nil (front_of r) (fault_front h) none) in
      let second_part = hollow T c s (left_nil (front_of s) (front_of s') nothing) in
      let one = first_part.1 ∙ ((fine T c n x q e).hollow first_part.0).1 in
      let other = second_part.1 ∙ ((fine T c n y q' g).hollow second_part.0).1 in
      let fronts : mid' ≡ fault_front h ++ zs = spelled s' ∙ ap (λ t. t ++ zs) (right_nil (front_of s) (front_of s') nothing ∙ sym (right_nil (front_of r) (fault_front h) none)) in
      later mid' zs o (at_plan (ap k (other ∙ sym one)) s') fronts
  none_behind m n k q q' x y xs mid bad us mid' zs f a b o e r h g s s' text later (inr (v, vs, some)) =
      let whole : x ∷ xs ≡ (front_of r ++ fault_front h) ++ bad = spelled r ∙ ap (λ t. front_of r ++ t) (fault_spelled h) ∙ sym (append_assoc (front_of r) (fault_front h) bad) in
      let same = first_of_both n x y xs us (front_of r ++ fault_front h) bad zs q q' whole text (λ none. cc) e g in
      let part = at_plan same s in
      let agreed = agree n q (x ∷ xs) mid (y ∷ us) mid' a b r part (fault_front h) (front_of s') bad zs (fault_spelled h) (spelled s') text (one_answer r (y ∷ us) mid' b part) in
      later mid' zs o (at_plan (ap k (sym agreed.0)) s') (spelled s' ∙ ap (λ t. t ++ zs) (sym agreed.1))

  -- The tokens before the failing one are read from nothing, whatever stands behind them.
  pub none_whole : {m : S.Ask} {p : Plan S m} {xs bad : List S.Token} {f : Want S} → Even T p → (h : Fails T m p xs f bad) (ws zs : List S.Token) (o : S.Answer m) → Reads T m p ws o zs → ws ≡ fault_front h ++ zs → ⊥
  none_whole even (fail_take e) ws zs o (read_take {x = y} {xs = us} g r) text =
      let nothing = no_front (y ∷ front_of r) zs (sym text ∙ ap (λ v. y ∷ v) (spelled r)) in
      cc
  none_whole even (fail_later {k = k} {x = x} e h) ws zs o (read_take {x = y} {xs = us} g r) text =
      let head : y ≡ x = cc in
      let tail : us ≡ fault_front h ++ zs = cc in
      none_whole (even x) h us zs o (at_plan (ap k head) r) tail
  none_whole even (fail_ask {m = m} {n = n} {k = k} {x = x} e) ws zs o r text =
      stuck T c n x e (left_nil (T.ending n) (rest_of T (k (T.value n))) (hollow T c r (no_front (front_of r) zs (sym text ∙ spelled r))).0)
  none_whole even (fail_inside {m = m} {n = n} {k = k} {q = q} {x = x} {xs = xs} {bad = bad} {f = f} e h) ws zs o (read_call {q = q'} {x = y} {xs = us} {ys = mid} {a = b} g s s') text =
      none_inside m n k q q' x y xs bad us mid zs f b o e h g s s' text (λ ws' zs' b' t u. none_whole (fine T c n x q e).even h ws' zs' b' t u) (nil_or_cons (fault_front h)) (nil_or_cons (front_of s'))
  none_whole even (fail_behind {m = m} {n = n} {k = k} {q = q} {x = x} {xs = xs} {ys = mid} {bad = bad} {a = a} {f = f} e r h) ws zs o (read_call {q = q'} {x = y} {xs = us} {ys = mid'} {a = b} g s s') text =
      none_behind m n k q q' x y xs mid bad us mid' zs f a b o e r h g s s' text (λ ws' zs' o' t u. none_whole (even a).1 h ws' zs' o' t u) (nil_or_cons (front_of r ++ fault_front h))

  -- ---- what is said of them without plans

  -- What is read is a whole, before whatever stands there.
  pub whole : (n : S.Ask) (front more : List S.Token) (x : S.Token) (a : S.Answer n) → Reads T n (ask n) (front ++ x ∷ more) a (x ∷ more) → IsWhole T n front a x
  whole n front more x a r =
      let same : front_of r ≡ front = append_cancel_right (front_of r) front (x ∷ more) (sym (spelled r)) in
      record { read = λ zs. at_tokens (ap (λ t. t ++ x ∷ zs) same) (goes_on T c r x more zs refl) }

  -- It is one before any token at which the ask may end, too.
  pub ends_before : (n : S.Ask) (front rest : List S.Token) (z : S.Token) (a : S.Answer n) → T.Stops n z → Reads T n (ask n) (front ++ rest) a rest → IsWhole T n front a z
  ends_before n front rest z a stops r =
      let same : front_of r ≡ front = append_cancel_right (front_of r) front rest (sym (spelled r)) in
      record { read = λ zs. at_tokens (ap (λ t. t ++ z ∷ zs) same) (move T c r z (inr (λ b. (stops, tt))) zs) }

  -- The tokens of a whole have one answer.
  pub one_whole : (n : S.Ask) (tokens : List S.Token) (y z : S.Token) (a b : S.Answer n) → IsWhole T n tokens a y → IsWhole T n tokens b z → a ≡ b
  one_whole n tokens y z a b v w =
      let r = v.read [] in
      let same : front_of r ≡ tokens = append_cancel_right (front_of r) tokens (y ∷ []) (sym (spelled r)) in
      one_answer r (tokens ++ z ∷ []) (z ∷ []) b (w.read []) (ap (λ t. t ++ z ∷ []) (sym same))

  -- A fault stays whatever stands behind the failing token.
  pub fault_stays : (n : S.Ask) (front more others : List S.Token) (x : S.Token) (f : Want S) → Fails T n (ask n) (front ++ x ∷ more) f (x ∷ more) → Fails T n (ask n) (front ++ x ∷ others) f (x ∷ others)
  fault_stays n front more others x f h =
      let same : fault_front h ≡ front = append_cancel_right (fault_front h) front (x ∷ more) (sym (fault_spelled h)) in
      fault_at_tokens (ap (λ t. t ++ x ∷ others) same) (fail_move T c h x refl others)

  -- With the next token no whole begins.
  pub longest : (n : S.Ask) (front more : List S.Token) (x : S.Token) (a : S.Answer n) → Reads T n (ask n) (front ++ x ∷ more) a (x ∷ more) → (z : S.Token) → ¬ BeginsWhole T n (front ++ x ∷ []) z
  longest n front more x a r z longer =
      let here = (whole n front more x a r).read (longer.rest ++ z ∷ []) in
      let text : front ++ (x ∷ (longer.rest ++ z ∷ [])) ≡ ((front ++ x ∷ []) ++ longer.rest) ++ z ∷ [] =
      ap (λ t. front ++ t) (sym (append_assoc (x ∷ []) longer.rest (z ∷ []))) ∙ sym (append_assoc front (x ∷ longer.rest) (z ∷ [])) ∙ ap (λ t. t ++ z ∷ []) (sym (append_assoc front (x ∷ []) longer.rest)) in
      let both = one_reading T n (ask n) _ _ _ _ _ (at_tokens text here) (longer.whole.read []) in
      let none = no_front (x ∷ longer.rest) (z ∷ []) (sym both.1) in
      cc

  -- At a fault stands the failing token.
  pub failing : (n : S.Ask) (front more : List S.Token) (x z : S.Token) (f : Want S) → T.Stops n z → Fails T n (ask n) (front ++ x ∷ more) f (x ∷ more) → IsFailing T n front x z
  failing n front more x z f stops h =
      let same : fault_front h ≡ front = append_cancel_right (fault_front h) front (x ∷ more) (sym (fault_spelled h)) in
      let completed = subst (λ v. Completed T n (ask n) v) same (viable T c h) in
      record {
        goes_on = record {
          rest = completed.rest;
          answer = completed.answer;
          whole = record { read = λ zs. at_tokens (sym (append_assoc front completed.rest (z ∷ zs))) (completed.reads z (λ a. (stops, tt)) zs) };
        };
        none_whole = λ a y w. none_whole (λ b. ((λ d e. refl), tt)) h (front ++ y ∷ []) (y ∷ []) a (w.read []) (ap (λ t. t ++ y ∷ []) (sym same));
        nothing_goes_on = λ y longer.
            let moved = fail_move T c h x refl (longer.rest ++ y ∷ []) in
            let text : fault_front h ++ (x ∷ (longer.rest ++ y ∷ [])) ≡ ((front ++ x ∷ []) ++ longer.rest) ++ y ∷ [] =
            ap (λ t. t ++ (x ∷ (longer.rest ++ y ∷ []))) same ∙ ap (λ t. front ++ t) (sym (append_assoc (x ∷ []) longer.rest (y ∷ []))) ∙ sym (append_assoc front (x ∷ longer.rest) (y ∷ [])) ∙ ap (λ t. t ++ y ∷ []) (sym (append_assoc front (x ∷ []) longer.rest)) in
            read_or_fails T n (ask n) _ _ _ _ _ (fault_at_tokens text moved) (longer.whole.read []);
      }
