-- A fact that every production keeps where another is known of each of its parts holds of all that is read.
use Rattle.std.proofs.Common.{◌≡◌, true, List, [], ◌∷◌, ◌++◌, Some, None, refl, sym, subst}
use Rattle.std.specs.Prelude.{Option, ⊤}
use Rattle.std.proofs.lemmas.List.{append_assoc, append-nil, append_cancel_right}
use Rattle.sp_parse_grammar.specs.Table.{Symbols, Plan, done, take, call, Table, ask, Heads, Reads, read_done, read_take, read_call}
use Rattle.sp_parse_grammar.proofs.Readings.{front_of, spelled}

-- The fact P holds of each answer of the plan and these tokens with those that the plan reads, where Q holds of each part.
abbrev pub Also : {S : Symbols} (P Q : (n : S.Ask) → List S.Token → S.Answer n → Type 0) {m : S.Ask} → Plan S m → List S.Token → Type 0
Also P Q {m} (done o) ws = P m ws o
Also {S} P Q (take c k) ws = (x : S.Token) → S.accepts c x ≡ true → Also P Q (k x) (ws ++ x ∷ [])
Also {S} P Q (call n k) ws = (vs : List S.Token) (a : S.Answer n) → Q n vs a → P n vs a → Also P Q (k a) (ws ++ vs)

-- The same of a production that was chosen by this token: where it takes a token first, that is the one.
abbrev pub AlsoFrom : {S : Symbols} (P Q : (n : S.Ask) → List S.Token → S.Answer n → Type 0) {m : S.Ask} → S.Token → Plan S m → Type 0
AlsoFrom P Q {m} x (done o) = P m [] o
AlsoFrom {S} P Q x (take c k) = S.accepts c x ≡ true → Also P Q (k x) (x ∷ [])
AlsoFrom {S} P Q x (call n k) = (vs : List S.Token) (a : S.Answer n) → Q n vs a → P n vs a → Also P Q (k a) vs

abbrev pub AlsoAt : {S : Symbols} (P Q : (n : S.Ask) → List S.Token → S.Answer n → Type 0) (n : S.Ask) (x : S.Token) → Option (Plan S n) → Type 0
AlsoAt P Q n x None = ⊤
AlsoAt P Q n x (Some q) = AlsoFrom P Q x q

-- Where P says nothing, each production keeps it.
module _ {S : Symbols} (P Q : (n : S.Ask) → List S.Token → S.Answer n → Type 0) (m : S.Ask) (all : (ws : List S.Token) (o : S.Answer m) → P m ws o) where
  plan_keeps : (p : Plan S m) (ws : List S.Token) → Also P Q p ws
  plan_keeps (done o) ws = all ws o
  plan_keeps (take c k) ws = λ x e. plan_keeps (k x) (ws ++ x ∷ [])
  plan_keeps (call n k) ws = λ vs a q p. plan_keeps (k a) (ws ++ vs)

  production_keeps : (x : S.Token) (p : Plan S m) → AlsoFrom P Q x p
  production_keeps x (done o) = all [] o
  production_keeps x (take c k) = λ e. plan_keeps (k x) (x ∷ [])
  production_keeps x (call n k) = λ vs a q p. plan_keeps (k a) vs

  pub none_said : (x : S.Token) (q : Option (Plan S m)) → AlsoAt P Q m x q
  none_said x None = tt
  none_said x (Some q) = production_keeps x q

module _ {S : Symbols} (T : Table S) (P Q : (n : S.Ask) → List S.Token → S.Answer n → Type 0) (known : (n : S.Ask) (xs ys : List S.Token) (a : S.Answer n) (r : Reads T n (ask n) xs a ys) → Q n (front_of r) a)
    (each : (n : S.Ask) (x : S.Token) → AlsoAt P Q n x (T.predict n x)) where
  kept_at : (n : S.Ask) (x : S.Token) (q : Plan S n) → T.predict n x ≡ Some q → AlsoFrom P Q x q
  kept_at n x q e = subst (AlsoAt P Q n x) e (each n x)

  -- what is known of a part
  part_known : {n : S.Ask} {q : Plan S n} {x : S.Token} {xs ys : List S.Token} {a : S.Answer n} → (e : T.predict n x ≡ Some q) (r : Reads T n q (x ∷ xs) a ys) → Q n (front_of r) a
  part_known {n = n} {x = x} {xs = xs} {ys = ys} {a = a} e r = subst (λ v. Q n v a) (append-nil (front_of r)) (known n (x ∷ xs) ys a (read_call e r read_done))

  both : {m : S.Ask} {p : Plan S m} {xs ys : List S.Token} {o : S.Answer m} (r : Reads T m p xs o ys) → ((ws : List S.Token) → Also P Q p ws → P m (ws ++ front_of r) o) × ((x : S.Token) → Heads xs x → AlsoFrom P Q x p → P m (front_of r) o)
  both {m = m} {o = o} read_done = (λ ws keeps. subst (λ v. P m v o) (sym (append-nil ws)) keeps, λ x head keeps. keeps)
  both {m = m} {o = o} (read_take {c = c} {k = k} {x = y} e r) = (
    λ ws keeps. subst (λ v. P m v o) (append_assoc ws (y ∷ []) (front_of r)) ((both r).0 (ws ++ y ∷ []) (keeps y e)),
    λ x head keeps. (both r).0 (y ∷ []) (subst (λ v. AlsoFrom P Q v (take c k)) (sym head) keeps e),
  )
  both {m = m} {o = o} (read_call {n = n} {q = q} {x = y} {a = a} e r s) =
      let part = (both r).1 y refl (kept_at n y q e) in
      let known_part = part_known e r in (
        λ ws keeps. subst (λ v. P m v o) (append_assoc ws (front_of r) (front_of s)) ((both s).0 (ws ++ front_of r) (keeps (front_of r) a known_part part)),
        λ x head keeps. (both s).0 (front_of r) (keeps (front_of r) a known_part part),
      )

  also : {n : S.Ask} {xs ys : List S.Token} {a : S.Answer n} (r : Reads T n (ask n) xs a ys) → P n (front_of r) a
  also {n = n} {a = a} (read_call {q = q} {x = x} e r read_done) = subst (λ v. P n v a) (sym (append-nil (front_of r))) ((both r).1 x refl (kept_at n x q e))

  -- What is read for an ask has the fact, with the tokens named.
  pub also_front : {n : S.Ask} (front ys : List S.Token) (a : S.Answer n) → Reads T n (ask n) (front ++ ys) a ys → P n front a
  also_front {n = n} front ys a r = subst (λ v. P n v a) (append_cancel_right (front_of r) front ys (sym (spelled r))) (also r)
