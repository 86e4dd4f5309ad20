-- Only the next token matters: a reading goes on in the same way before any other text that begins with the same token, and
-- before any token before which its parts may end.
use Rattle.std.proofs.Common.{◌≡◌, ◌≢◌, true, false, ◌⊎◌, inl, inr, List, [], ◌∷◌, ◌++◌, Some, None, refl, sym, ap, ◌∙◌, subst}
use Rattle.std.proofs.lemmas.List.{append_assoc}
use Rattle.sp_parse_grammar.specs.Table.{Symbols, Plan, take, call, Table, ask, rest_of, result_of, first, Heads, Reads, read_done, read_take, read_call, Want, Fails, fail_take, fail_later, fail_ask, fail_inside, fail_behind}
use Rattle.sp_parse_grammar.specs.Checked.{Follows, IsFine, Good, Checked}
use Rattle.sp_parse_grammar.proofs.Lists.{left_nil, right_nil, behind, next_token, heads}
use Rattle.sp_parse_grammar.proofs.Readings.{front_of, fault_front, spelled, fault_spelled, at_tokens, at_answer, fault_at_tokens, join, join_fails}

module _ {S : Symbols} (T : Table S) (c : Checked T) where
  pub fine : (n : S.Ask) (x : S.Token) (q : Plan S n) → T.predict n x ≡ Some q → IsFine T n x q
  fine n x q e = subst (Good T n x) e (c.productions n x)

  pub stuck : (n : S.Ask) (x : S.Token) → T.predict n x ≡ None → T.ending n ≢ []
  stuck n x e = subst (Good T n x) e (c.productions n x)

  -- what is read from no token is the shortest
  pub hollow : {m : S.Ask} {p : Plan S m} {xs ys : List S.Token} {o : S.Answer m} (r : Reads T m p xs o ys) → front_of r ≡ [] → (rest_of T p ≡ []) × (o ≡ result_of T p)
  hollow read_done e = (refl, refl)
  hollow (read_take e r) g = absurd cc
  hollow {o = o} (read_call {n = n} {k = k} {q = q} {x = x} {a = a} e r s) g =
      let part = hollow r (left_nil (front_of r) (front_of s) g) in
      let later = hollow s (right_nil (front_of r) (front_of s) g) in
      let none = (fine n x q e).hollow part.0 in
      let P : S.Answer n → Type 0 = λ v. (T.ending n ++ rest_of T (k v) ≡ []) × (o ≡ result_of T (k v)) in
      subst P (part.1 ∙ none.1) (rw none.0 later.0, later.1)

  -- what a part reads stays, behind tokens that begin as they did or before a token where it may end
  part_moved : (n : S.Ask) (x : S.Token) (q : Plan S n) (xs ys : List S.Token) (a : S.Answer n) (front : List S.Token) (w : S.Token) (zs : List S.Token) → T.predict n x ≡ Some q → x ∷ xs ≡ front ++ ys
      → (front ≡ [] → (rest_of T q ≡ []) × (a ≡ result_of T q)) → (Heads ys w) ⊎ (T.Stops n w) → Reads T n q (front ++ w ∷ zs) a (w ∷ zs) → Reads T n (ask n) (front ++ w ∷ zs) a (w ∷ zs)
  part_moved n x q xs ys a (v ∷ front) w zs e same hollow side r =
      let head : x ≡ v = cc in
      read_call (subst (λ u. T.predict n u ≡ Some q) head e) r read_done
  part_moved n x q xs ys a [] w zs e same hollow (inl h) r =
      let head : x ≡ w = subst (λ v. Heads v w) (sym same) h in
      read_call (subst (λ u. T.predict n u ≡ Some q) head e) r read_done
  part_moved n x q xs ys a [] w zs e same hollow (inr stops) r =
      let nothing = hollow refl in
      let none = (fine n x q e).hollow nothing.0 in
      at_tokens (ap (λ v. v ++ w ∷ zs) none.0) (at_answer (sym (nothing.1 ∙ none.1)) (c.ends n w zs stops))

  -- what may stand behind the first of two parts
  next_side : (n : S.Ask) (front mid left rest : List S.Token) (z : S.Token) → mid ≡ front ++ left → (front ≡ [] → rest ≡ []) → (Heads left z) ⊎ (T.Stops n (first rest z)) → (Heads mid (first front z)) ⊎ (T.Stops n (first front z))
  next_side n (v ∷ front) mid left rest z same hollow side = inl (heads mid v (front ++ left) same)
  next_side n [] mid left rest z same hollow (inl h) = inl (subst (λ v. Heads v z) (sym same) h)
  next_side n [] mid left rest z same hollow (inr stops) = inr (subst (λ v. T.Stops n (first v z)) (hollow refl) stops)

  -- what may stand behind a plan may stand behind the rest of it
  side_behind_token : {m : S.Ask} (d : S.Class) (k : S.Token → Plan S m) (x : S.Token) (ys : List S.Token) (z : S.Token) → S.accepts d x ≡ true → (Heads ys z) ⊎ (Follows T (take d k) z) → (Heads ys z) ⊎ (Follows T (k x) z)
  side_behind_token d k x ys z e (inl h) = inl h
  side_behind_token d k x ys z e (inr follows) = inr (follows x e)

  side_behind_part : {m : S.Ask} (n : S.Ask) (k : S.Answer n → Plan S m) (a : S.Answer n) (ys : List S.Token) (z : S.Token) → (Heads ys z) ⊎ (Follows T (call n k) z) → (Heads ys z) ⊎ (Follows T (k a) z)
  side_behind_part n k a ys z (inl h) = inl h
  side_behind_part n k a ys z (inr follows) = inr (follows a).1

  side_before : {m : S.Ask} (n : S.Ask) (k : S.Answer n → Plan S m) (a : S.Answer n) (ys : List S.Token) (z : S.Token) → (Heads ys z) ⊎ (Follows T (call n k) z) → (Heads ys z) ⊎ (T.Stops n (first (rest_of T (k a)) z))
  side_before n k a ys z (inl h) = inl h
  side_before n k a ys z (inr follows) = inr (follows a).0

  side_inside : (n : S.Ask) (x : S.Token) (q : Plan S n) (ys : List S.Token) (z : S.Token) → T.predict n x ≡ Some q → (Heads ys z) ⊎ (T.Stops n z) → (Heads ys z) ⊎ (Follows T q z)
  side_inside n x q ys z e (inl h) = inl h
  side_inside n x q ys z e (inr stops) = inr ((fine n x q e).follows z stops)

  -- Only the next token matters, and not even that where the plan may end before it.
  pub move : {m : S.Ask} {p : Plan S m} {xs ys : List S.Token} {o : S.Answer m} (r : Reads T m p xs o ys) (z : S.Token) → (Heads ys z) ⊎ (Follows T p z) → (zs : List S.Token) → Reads T m p (front_of r ++ z ∷ zs) o (z ∷ zs)
  move read_done z side zs = read_done
  move (read_take {c = d} {k = k} {x = x} {ys = ys} e r) z side zs = read_take e (move r z (side_behind_token d k x ys z e side) zs)
  move {m = m} (read_call {n = n} {k = k} {q = q} {x = x} {xs = xs} {ys = mid} {zs = left} {a = a} e r s) z side zs =
      let front = front_of s in
      let w = first front z in
      let us = behind front z zs in
      let before = next_side n front mid left (rest_of T (k a)) z (spelled s) (λ none. (hollow s none).0) (side_before n k a left z side) in
      let inner = move r w (side_inside n x q mid w e before) us in
      let part = part_moved n x q xs mid a (front_of r) w us e (spelled r) (hollow r) before inner in
      let rest = move s z (side_behind_part n k a left z side) zs in
      let text : front_of r ++ w ∷ us ≡ (front_of r ++ front) ++ z ∷ zs = ap (λ v. front_of r ++ v) (sym (next_token front z zs)) ∙ sym (append_assoc (front_of r) front (z ∷ zs)) in
      at_tokens text (join part (at_tokens (next_token front z zs) rest))

  -- the same before a text that begins as this one does
  pub goes_on : {m : S.Ask} {p : Plan S m} {xs ys : List S.Token} {o : S.Answer m} (r : Reads T m p xs o ys) (z : S.Token) (us zs : List S.Token) → ys ≡ z ∷ us → Reads T m p (front_of r ++ z ∷ zs) o (z ∷ zs)
  goes_on {ys = ys} r z us zs e = move r z (inl (heads ys z us e)) zs

  -- and of a part with the token by which it was chosen
  pub part_goes_on : {n : S.Ask} {q : Plan S n} {x : S.Token} {xs ys : List S.Token} {a : S.Answer n} → T.predict n x ≡ Some q → (r : Reads T n q (x ∷ xs) a ys) (w : S.Token) → (Heads ys w) ⊎ (T.Stops n w) → (zs : List S.Token) → Reads T n (ask n) (front_of r ++ w ∷ zs) a (w ∷ zs)
  part_goes_on {n = n} {q = q} {x = x} {xs = xs} {ys = ys} {a = a} e r w side zs =
      part_moved n x q xs ys a (front_of r) w zs e (spelled r) (hollow r) side (move r w (side_inside n x q ys w e side) zs)

  -- the head of a text whose front may be nothing
  pub first_same : (front ys mid : List S.Token) (b : S.Token) → mid ≡ front ++ ys → Heads ys b → Heads mid (first front b)
  first_same [] ys mid b same h = subst (λ v. Heads v b) (sym same) h
  first_same (v ∷ front) ys mid b same h = heads mid v (front ++ ys) same

  pub head_front : (n : S.Ask) (q : Plan S n) (x : S.Token) (xs front bad : List S.Token) (b : S.Token) → T.predict n x ≡ Some q → x ∷ xs ≡ front ++ bad → Heads bad b → T.predict n (first front b) ≡ Some q
  head_front n q x xs front bad b e same h =
      let head : x ≡ first front b = first_same front bad (x ∷ xs) b same h in
      subst (λ v. T.predict n v ≡ Some q) head e

  -- A fault hangs on the tokens up to the failing one alone.
  pub fail_move : {m : S.Ask} {p : Plan S m} {xs bad : List S.Token} {f : Want S} (h : Fails T m p xs f bad) (b : S.Token) → Heads bad b → (zs : List S.Token) → Fails T m p (fault_front h ++ b ∷ zs) f (b ∷ zs)
  fail_move (fail_take {c = d} {x = x} e) b head zs = let refuses : S.accepts d b ≡ false = subst (λ v. S.accepts d v ≡ false) head e in fail_take refuses
  fail_move (fail_later e h) b head zs = fail_later e (fail_move h b head zs)
  fail_move (fail_ask {n = n} {x = x} e) b head zs = let refuses : T.predict n b ≡ None = subst (λ v. T.predict n v ≡ None) head e in fail_ask refuses
  fail_move (fail_inside {n = n} {q = q} {x = x} {xs = xs} {bad = bad} e h) b head zs =
      let front = fault_front h in
      let moved = fail_move h b head zs in
      fault_at_tokens (sym (next_token front b zs)) (fail_inside (head_front n q x xs front bad b e (fault_spelled h) head) (fault_at_tokens (next_token front b zs) moved))
  fail_move (fail_behind {n = n} {k = k} {q = q} {x = x} {xs = xs} {ys = mid} {bad = bad} {a = a} e r h) b head zs =
      let front = fault_front h in
      let w = first front b in
      let us = behind front b zs in
      let part = part_goes_on e r w (inl (first_same front bad mid b (fault_spelled h) head)) us in
      let later = fail_move h b head zs in
      let text : front_of r ++ w ∷ us ≡ (front_of r ++ front) ++ b ∷ zs = ap (λ v. front_of r ++ v) (sym (next_token front b zs)) ∙ sym (append_assoc (front_of r) front (b ∷ zs)) in
      fault_at_tokens text (join_fails part (fault_at_tokens (next_token front b zs) later))
