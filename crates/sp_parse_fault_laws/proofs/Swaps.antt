-- What it means that notes tell whether another token could be in the failing one's place, for any table.
--
-- At the token b a plan ends or fails; the question is what it does at the token x. A part that ended at b may go on with x, and what
-- fails at b may take x, or fail at x too. A note on each answer tells the first, a note on each want the second.
use Rattle.std.proofs.Common.{◌≡◌, ◌≢◌, ◌⊎◌, Bool, true, false, List, [], ◌∷◌, ◌++◌, Some, None, refl, sym, ap, ◌∙◌, subst}
use Rattle.std.specs.Prelude.{Option, ⊤, ◌||◌}
use Rattle.std.proofs.lemmas.List.{append_assoc}
use Rattle.sp_parse_grammar.specs.Table.{Symbols, Plan, done, take, call, Table, ask, rest_of, result_of, first, Reads, read_take, read_call, Want, wanted, asked, Fails, fail_take, fail_later, fail_ask, fail_inside, fail_behind, Opens, open_take, open_call}
use Rattle.sp_parse_grammar.specs.Checked.{Checked}
use Rattle.sp_parse_grammar.proofs.Lists.{left_nil, no_front, behind, next_token}
use Rattle.sp_parse_grammar.proofs.Readings.{front_of, fault_front, spelled, fault_spelled, at_tokens, join}
use Rattle.sp_parse_grammar.proofs.Completions.{Completed, finish, completed_inside}

-- The asks that are spoken of, and those of them that the token may begin; whether the other token could go on with an answer, and with
-- the left part that an ask carries; whether it could be where this was wanted; what is known of answers; and what holds of each want.
pub record Notes (S : Symbols) : Type 1 where
  pub covers : S.Ask → Type 0
  pub at_token : S.Ask → Type 0
  pub may_go_on : (n : S.Ask) → S.Answer n → Bool
  pub carried : S.Ask → Bool
  pub tells : Want S → Bool
  pub known : (n : S.Ask) → S.Answer n → Type 0
  pub own : Want S → Type 0

-- the ask's production at the token takes it
abbrev pub Takes : {S : Symbols} (T : Table S) → S.Token → S.Ask → Type 0
Takes {S} T b n = (q : Plan S n) × (T.predict n b ≡ Some q) × Opens T n q b

-- The notes are kept by the rest of a plan that begins at the token, where so much could go on before it.
abbrev pub AtToken : {S : Symbols} (T : Table S) (N : Notes S) (b x : S.Token) {m : S.Ask} → Plan S m → Bool → Type 0
AtToken T N b x {m} (done o) so_far = N.may_go_on m o ≡ so_far
AtToken {S} T N b x (take c k) so_far = S.accepts c b ≡ false → (N.tells (wanted c) ≡ so_far || S.accepts c x) × N.own (wanted c)
AtToken {S} T N b x {m} (call n k) so_far = N.at_token n × (N.carried n ≡ true → so_far ≡ true) × (so_far ≡ true → Takes T b n ⊎ ((N.carried n ≡ true) ⊎ ((o : S.Answer n) × (T.predict n b ≡ Some (done o))))) × (T.ending n ≡ [] → Takes T b n ⊎ AtToken T N b x (k (T.value n)) (so_far || N.may_go_on n (T.value n)))

-- The same where some tokens are read before it.
abbrev pub Before : {S : Symbols} (T : Table S) (N : Notes S) (b x : S.Token) {m : S.Ask} → Plan S m → Type 0
Before T N b x (done o) = ⊤
Before {S} T N b x (take c k) = (y : S.Token) → S.accepts c y ≡ true → AtToken T N b x (k y) false × Before T N b x (k y)
Before {S} T N b x (call n k) = N.covers n × ((a : S.Answer n) → N.known n a → AtToken T N b x (k a) (N.may_go_on n a) × Before T N b x (k a))

abbrev pub BeforeAt : {S : Symbols} (T : Table S) (N : Notes S) (b x : S.Token) (n : S.Ask) → Option (Plan S n) → Type 0
BeforeAt T N b x n None = ⊤
BeforeAt T N b x n (Some q) = Before T N b x q

-- where the productions at both tokens are the same
abbrev pub SameAt : {S : Symbols} (T : Table S) (N : Notes S) (b x : S.Token) (n : S.Ask) → Option (Plan S n) → Type 0
SameAt T N b x n None = (N.tells (asked n) ≡ N.carried n) × N.own (asked n)
SameAt T N b x n (Some q) = AtToken T N b x q (N.carried n)

-- How an ask goes about the two tokens: by the same production; nothing is read before b, and x is taken; b isn't what was wanted, and x is
-- taken; both productions take x; x is
-- taken, and what the other production does at b is told; or b is taken.
pub data Peek {S : Symbols} (T : Table S) (N : Notes S) (b x : S.Token) (n : S.Ask) : Type 0 where
  same : T.predict n b ≡ T.predict n x → SameAt T N b x n (T.predict n b) → Peek T N b x n
  opens_done : (q : Plan S n) (o : S.Answer n) → T.predict n x ≡ Some q → Opens T n q x → T.predict n b ≡ Some (done o) → N.may_go_on n o ≡ true → Peek T N b x n
  opens_none : (q : Plan S n) → T.predict n x ≡ Some q → Opens T n q x → T.predict n b ≡ None → N.tells (asked n) ≡ true → N.own (asked n) → Peek T N b x n
  opens_too : (q p : Plan S n) → T.predict n x ≡ Some q → Opens T n q x → T.predict n b ≡ Some p → Opens T n p x → AtToken T N b x p (N.carried n) → Peek T N b x n
  opens_over : (q p : Plan S n) → T.predict n x ≡ Some q → Opens T n q x → T.predict n b ≡ Some p → AtToken T N b x p true → Peek T N b x n
  taken : (q : Plan S n) → T.predict n b ≡ Some q → Opens T n q b → Peek T N b x n

-- the notes at the token or before it, by the tokens that are read
abbrev pub Noted : {S : Symbols} (T : Table S) (N : Notes S) (b x : S.Token) {m : S.Ask} → List S.Token → Plan S m → Bool → Type 0
Noted T N b x [] p so_far = AtToken T N b x p so_far
Noted T N b x (y ∷ ys) p so_far = Before T N b x p

-- what could go on before any of these tokens counts where there is none
abbrev pub at_once : {A : Type 0} → List A → Bool → Bool
at_once [] b = b
at_once (y ∷ ys) b = false

-- What was read up to b is read up to x, or goes on with x, as its note tells.
pub record ReadClaim {S : Symbols} (T : Table S) (N : Notes S) (x : S.Token) {m : S.Ask} (p : Plan S m) (front : List S.Token) (o : S.Answer m) (so_far : Bool) : Type 0 where
  pub goes : Bool
  pub told : N.may_go_on m o ≡ so_far || goes
  pub stays : goes ≡ false → (zs : List S.Token) → Reads T m p (front ++ x ∷ zs) o (x ∷ zs)
  pub goes_on : goes ≡ true → Completed T m p (front ++ x ∷ [])

-- What failed at b fails at x, or goes on with x, as the note tells.
pub record FailClaim {S : Symbols} (T : Table S) (N : Notes S) (x : S.Token) {m : S.Ask} (p : Plan S m) (front : List S.Token) (w : Want S) (so_far : Bool) : Type 0 where
  pub goes : Bool
  pub told : N.tells w ≡ so_far || goes
  pub own : N.own w
  pub stays : goes ≡ false → (zs : List S.Token) → Fails T m p (front ++ x ∷ zs) w (x ∷ zs)
  pub goes_on : goes ≡ true → Completed T m p (front ++ x ∷ [])

-- a part that goes on with x, by the production of its first token
pub record PartGoes {S : Symbols} (T : Table S) (n : S.Ask) (front : List S.Token) : Type 0 where
  pub first : S.Token
  pub rest : List S.Token
  pub whole : front ≡ first ∷ rest
  pub plan : Plan S n
  pub chosen : T.predict n first ≡ Some plan
  pub part : Completed T n plan (first ∷ rest)

pub record ReadPart {S : Symbols} (T : Table S) (N : Notes S) (x : S.Token) (n : S.Ask) (front : List S.Token) (a : S.Answer n) : Type 0 where
  pub goes : Bool
  pub told : N.may_go_on n a ≡ at_once front (N.carried n) || goes
  pub stays : goes ≡ false → (zs : List S.Token) → Reads T n (ask n) (front ++ x ∷ zs) a (x ∷ zs)
  pub goes_on : goes ≡ true → PartGoes T n (front ++ x ∷ [])

pub record FailPart {S : Symbols} (T : Table S) (N : Notes S) (x : S.Token) (n : S.Ask) (front : List S.Token) (w : Want S) : Type 0 where
  pub goes : Bool
  pub told : N.tells w ≡ at_once front (N.carried n) || goes
  pub own : N.own w
  pub stays : goes ≡ false → (zs : List S.Token) → Fails T n (ask n) (front ++ x ∷ zs) w (x ∷ zs)
  pub goes_on : goes ≡ true → PartGoes T n (front ++ x ∷ [])

-- ---- truth values

pub or_true : (a : Bool) → a || true ≡ true
or_true true = refl
or_true false = refl

pub or_false : (a : Bool) → a || false ≡ a
or_false true = refl
or_false false = refl

pub none_at_once : {A : Type 0} (xs : List A) → at_once xs false ≡ false
none_at_once [] = refl
none_at_once (x ∷ xs) = refl

-- what a part may go on with, what was so before it, and what is so behind it
pub carry : (so_far carried goes more may : Bool) → (carried ≡ true → so_far ≡ true) → may ≡ carried || goes → (so_far || may) || more ≡ so_far || (goes || more)
carry true carried goes more may c e = refl
carry false true goes more may c e = absurd (let f = c refl in cc)
carry false false goes more may c e = ap (λ v. v || more) e

pub both_false : (a b : Bool) → a || b ≡ false → (a ≡ false) × (b ≡ false)
both_false true b e = absurd cc
both_false false b e = (refl, e)

-- ---- plans that take a token

module _ {S : Symbols} (T : Table S) where
  opens_reads : {m : S.Ask} {p : Plan S m} {x : S.Token} {xs ys : List S.Token} {o : S.Answer m} → Opens T m p x → (r : Reads T m p (x ∷ xs) o ys) → front_of r ≢ []
  opens_reads (open_take e) (read_take g r) none = cc
  opens_reads {x = x} (open_call {n = n} {q = q} e h) (read_call {q = p} g r s) none =
      let same : q ≡ p = cc in
      opens_reads (subst (λ v. Opens T n v x) same h) r (left_nil (front_of r) (front_of s) none)

  opens_fails : {m : S.Ask} {p : Plan S m} {x : S.Token} {xs bad : List S.Token} {f : Want S} → Opens T m p x → (h : Fails T m p (x ∷ xs) f bad) → fault_front h ≢ []
  opens_fails (open_take e) (fail_take g) none = cc
  opens_fails (open_take e) (fail_later g h) none = cc
  opens_fails (open_call e o) (fail_ask g) none = cc
  opens_fails {x = x} (open_call {n = n} {q = q} e o) (fail_inside {q = p} g h) none =
      let same : q ≡ p = cc in
      opens_fails (subst (λ v. Opens T n v x) same o) h none
  opens_fails {x = x} (open_call {n = n} {q = q} e o) (fail_behind {q = p} g r h) none =
      let same : q ≡ p = cc in
      opens_reads (subst (λ v. Opens T n v x) same o) r (left_nil (front_of r) (fault_front h) none)

  -- a production at its last token is none that takes it
  pub no_read : {m : S.Ask} {p : Plan S m} {x : S.Token} {xs : List S.Token} {o : S.Answer m} → Opens T m p x → Reads T m p (x ∷ xs) o (x ∷ xs) → ⊥
  no_read {x = x} {xs = xs} opens r = opens_reads opens r (no_front (front_of r) (x ∷ xs) (spelled r))

  pub no_fail : {m : S.Ask} {p : Plan S m} {x : S.Token} {xs : List S.Token} {f : Want S} → Opens T m p x → Fails T m p (x ∷ xs) f (x ∷ xs) → ⊥
  no_fail {x = x} {xs = xs} opens h = opens_fails opens h (no_front (fault_front h) (x ∷ xs) (fault_spelled h))

-- ---- completions behind a part

module _ {S : Symbols} (T : Table S) (c : Checked T) where
  pub completed_after : {m : S.Ask} (n : S.Ask) (k : S.Answer n → Plan S m) (a : S.Answer n) (u : List S.Token) (v : S.Token) (vs : List S.Token) → ((zs : List S.Token) → Reads T n (ask n) (u ++ v ∷ zs) a (v ∷ zs)) → Completed T m (k a) (v ∷ vs) → Completed T m (call n k) (u ++ v ∷ vs)
  completed_after n k a u v vs part later = record {
    rest = later.rest;
    answer = later.answer;
    reads = λ z follows zs. at_tokens (sym (append_assoc u (v ∷ vs) (later.rest ++ z ∷ zs))) (join (part (vs ++ (later.rest ++ z ∷ zs))) (later.reads z (follows a).1 zs));
  }

  -- a part that was begun, asked for by another plan
  pub completed_ask : {m : S.Ask} (n : S.Ask) (k : S.Answer n → Plan S m) (u : List S.Token) → Completed T n (ask n) u → Completed T m (call n k) u
  completed_ask {m = m} n k u part =
      let rest = rest_of T (k part.answer) in
      record {
        rest = part.rest ++ rest;
        answer = result_of T (k part.answer);
        reads = λ z follows zs.
            let w = first rest z in
            let us = behind rest z zs in
            let inner = part.reads w (λ a. ((follows part.answer).0, tt)) us in
            let later = at_tokens (next_token rest z zs) (finish T c m (k part.answer) z (follows part.answer).1 zs) in
            let text : u ++ (part.rest ++ w ∷ us) ≡ u ++ ((part.rest ++ rest) ++ z ∷ zs) = ap (λ v. u ++ v) (ap (λ v. part.rest ++ v) (sym (next_token rest z zs)) ∙ sym (append_assoc part.rest rest (z ∷ zs))) in
            at_tokens text (join inner later);
      }

  pub completed_part : {m : S.Ask} (n : S.Ask) (k : S.Answer n → Plan S m) (u : List S.Token) → PartGoes T n u → Completed T m (call n k) u
  completed_part {m = m} n k u g = subst (λ v. Completed T m (call n k) v) (sym g.whole) (completed_inside T c n k g.plan g.first g.rest g.chosen g.part)
