-- Every text that was read or failed can be completed up to where that happened.
use Rattle.std.proofs.Common.{◌≡◌, true, inl, inr, List, [], ◌∷◌, ◌++◌, Some, sym, ap, ◌∙◌, subst}
use Rattle.std.proofs.lemmas.List.{append_assoc, append-nil}
use Rattle.sp_parse_grammar.specs.Table.{Symbols, Plan, done, take, call, Table, rest_of, result_of, first, Heads, Reads, read_done, read_take, read_call, Want, Fails, fail_take, fail_later, fail_ask, fail_inside, fail_behind, Opens, open_take, open_call}
use Rattle.sp_parse_grammar.specs.Checked.{Follows, Checked}
use Rattle.sp_parse_grammar.proofs.Lists.{behind, next_token, heads}
use Rattle.sp_parse_grammar.proofs.Readings.{front_of, fault_front, fault_spelled, at_tokens, join}
use Rattle.sp_parse_grammar.proofs.Moving.{fine, part_goes_on}

-- Tokens behind these ones make the plan be read.
pub record Completed {S : Symbols} (T : Table S) (m : S.Ask) (p : Plan S m) (front : List S.Token) : Type 0 where
  pub rest : List S.Token
  pub answer : S.Answer m
  pub reads : (z : S.Token) → Follows T p z → (zs : List S.Token) → Reads T m p (front ++ (rest ++ z ∷ zs)) answer (z ∷ zs)

module _ {S : Symbols} (T : Table S) (c : Checked T) where
  -- the shortest rest of a plan is read
  pub finish : (m : S.Ask) (p : Plan S m) (z : S.Token) → Follows T p z → (zs : List S.Token) → Reads T m p (rest_of T p ++ z ∷ zs) (result_of T p) (z ∷ zs)
  finish m (done o) z follows zs = read_done
  finish m (take d k) z follows zs = read_take (c.token_of d) (finish m (k (T.token d)) z (follows (T.token d) (c.token_of d)) zs)
  finish m (call n k) z follows zs =
      let a = T.value n in
      let rest = rest_of T (k a) in
      let part = c.ends n (first rest z) (behind rest z zs) (follows a).0 in
      let later = finish m (k a) z (follows a).1 zs in
      let text : T.ending n ++ (first rest z ∷ behind rest z zs) ≡ (T.ending n ++ rest) ++ z ∷ zs = ap (λ v. T.ending n ++ v) (sym (next_token rest z zs)) ∙ sym (append_assoc (T.ending n) rest (z ∷ zs)) in
      at_tokens text (join part (at_tokens (next_token rest z zs) later))

  pub completed_rest : (m : S.Ask) (p : Plan S m) → Completed T m p []
  completed_rest m p = record { rest = rest_of T p; answer = result_of T p; reads = finish m p }

  pub completed_take : {m : S.Ask} (d : S.Class) (k : S.Token → Plan S m) (x : S.Token) (front : List S.Token) → S.accepts d x ≡ true → Completed T m (k x) front → Completed T m (take d k) (x ∷ front)
  completed_take d k x front e later = record { rest = later.rest; answer = later.answer; reads = λ z follows zs. read_take e (later.reads z (follows x e) zs) }

  -- a part that was begun, and the shortest rest behind it
  pub completed_inside : {m : S.Ask} (n : S.Ask) (k : S.Answer n → Plan S m) (q : Plan S n) (x : S.Token) (front : List S.Token) → T.predict n x ≡ Some q → Completed T n q (x ∷ front) → Completed T m (call n k) (x ∷ front)
  completed_inside {m = m} n k q x front e part =
      let a = part.answer in
      let rest = rest_of T (k a) in
      record {
        rest = part.rest ++ rest;
        answer = result_of T (k a);
        reads = λ z follows zs.
            let w = first rest z in
            let us = behind rest z zs in
            let inner = part.reads w ((fine T c n x q e).follows w (follows a).0) us in
            let later = at_tokens (next_token rest z zs) (finish m (k a) z (follows a).1 zs) in
            let text : (x ∷ front) ++ (part.rest ++ w ∷ us) ≡ (x ∷ front) ++ ((part.rest ++ rest) ++ z ∷ zs) =
            ap (λ v. (x ∷ front) ++ v) (ap (λ v. part.rest ++ v) (sym (next_token rest z zs)) ∙ sym (append_assoc part.rest rest (z ∷ zs))) in
            at_tokens text (read_call e inner later);
      }

  -- a part that was read, and what was begun behind it
  pub completed_behind : {m : S.Ask} (n : S.Ask) (k : S.Answer n → Plan S m) {q : Plan S n} {x : S.Token} {xs mid : List S.Token} {a : S.Answer n} → T.predict n x ≡ Some q → (r : Reads T n q (x ∷ xs) a mid) (v : S.Token) (front : List S.Token) → Heads mid v → Completed T m (k a) (v ∷ front) → Completed T m (call n k) (front_of r ++ (v ∷ front))
  completed_behind n k {a = a} e r v front head later =
      record {
        rest = later.rest;
        answer = later.answer;
        reads = λ z follows zs.
            let us = front ++ (later.rest ++ z ∷ zs) in
            let part = part_goes_on T c e r v (inl head) us in
            at_tokens (sym (append_assoc (front_of r) (v ∷ front) (later.rest ++ z ∷ zs))) (join part (later.reads z (follows a).1 zs));
      }

  -- a part that was read, and the shortest rest behind it
  pub completed_between : {m : S.Ask} (n : S.Ask) (k : S.Answer n → Plan S m) {q : Plan S n} {x : S.Token} {xs mid : List S.Token} {a : S.Answer n} → T.predict n x ≡ Some q → (r : Reads T n q (x ∷ xs) a mid) → Completed T m (call n k) (front_of r ++ [])
  completed_between {m = m} n k {a = a} e r =
      let rest = rest_of T (k a) in
      record {
        rest = rest;
        answer = result_of T (k a);
        reads = λ z follows zs.
            let w = first rest z in
            let us = behind rest z zs in
            let part = part_goes_on T c e r w (inr (follows a).0) us in
            let later = at_tokens (next_token rest z zs) (finish m (k a) z (follows a).1 zs) in
            let text : front_of r ++ w ∷ us ≡ (front_of r ++ []) ++ (rest ++ z ∷ zs) =
            ap (λ v. front_of r ++ v) (sym (next_token rest z zs)) ∙ ap (λ v. v ++ (rest ++ z ∷ zs)) (sym (append-nil (front_of r))) in
            at_tokens text (join part later);
      }

  -- A plan that takes the token can be completed behind it.
  pub opened : (m : S.Ask) (p : Plan S m) (x : S.Token) → Opens T m p x → Completed T m p (x ∷ [])
  opened m p x (open_take {c = d} {k = k} e) = completed_take d k x [] e (completed_rest m (k x))
  opened m p x (open_call {n = n} {k = k} {q = q} e h) = completed_inside n k q x [] e (opened n q x h)

  viable_inside : {m : S.Ask} (n : S.Ask) (k : S.Answer n → Plan S m) (q : Plan S n) (x : S.Token) (xs front bad : List S.Token) → T.predict n x ≡ Some q → x ∷ xs ≡ front ++ bad → Completed T n q front → Completed T m (call n k) front
  viable_inside {m = m} n k q x xs [] bad e same part = completed_rest m (call n k)
  viable_inside {m = m} n k q x xs (v ∷ front) bad e same part =
      let head : x ≡ v = cc in
      completed_inside n k q v front (subst (λ u. T.predict n u ≡ Some q) head e) part

  viable_behind : {m : S.Ask} (n : S.Ask) (k : S.Answer n → Plan S m) {q : Plan S n} {x : S.Token} {xs mid : List S.Token} {a : S.Answer n} → T.predict n x ≡ Some q → (r : Reads T n q (x ∷ xs) a mid) (front bad : List S.Token) → mid ≡ front ++ bad → Completed T m (k a) front → Completed T m (call n k) (front_of r ++ front)
  viable_behind n k e r [] bad same later = completed_between n k e r
  viable_behind {m = m} n k {mid = mid} e r (v ∷ front) bad same later = completed_behind n k e r v front (heads mid v (front ++ bad) same) later

  -- The tokens before the failing one can be completed.
  pub viable : {m : S.Ask} {p : Plan S m} {xs bad : List S.Token} {f : Want S} (h : Fails T m p xs f bad) → Completed T m p (fault_front h)
  viable (fail_take {m = m} {c = d} {k = k} e) = completed_rest m (take d k)
  viable (fail_later {c = d} {k = k} {x = x} e h) = completed_take d k x (fault_front h) e (viable h)
  viable (fail_ask {m = m} {n = n} {k = k} e) = completed_rest m (call n k)
  viable (fail_inside {n = n} {k = k} {q = q} {x = x} {xs = xs} {bad = bad} e h) = viable_inside n k q x xs (fault_front h) bad e (fault_spelled h) (viable h)
  viable (fail_behind {n = n} {k = k} {bad = bad} e r h) = viable_behind n k e r (fault_front h) bad (fault_spelled h) (viable h)
