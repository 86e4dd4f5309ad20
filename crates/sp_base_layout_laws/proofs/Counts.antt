-- How many numbers below a bound pass a test.
use Rattle.std.proofs.Common.{◌≡◌, ℕ, zero, suc, ◌+◌, ◌*◌, ◌<◌, ◌≤◌, ◌%◌, Bool, true, false, ◌&&◌, ◌||◌, nat_eq, cond, ◌⊎◌, inl, inr, refl, ap, sym, subst, ◌∙◌, true≢false, eqb-true, eq-eqb, arith, add-zero, zero-add}
use Rattle.std.proofs.lemmas.Nat.{mod-mul-add}
use Rattle.std.proofs.lemmas.Bool.{eqb-false}

abbrev pub bit : Bool → ℕ
bit b = cond b 1 0

abbrev pub count_to : (ℕ → Bool) → ℕ → ℕ
count_to p zero = 0
count_to p (suc n) = bit (p n) + count_to p n

pub count-same : (p q : ℕ → Bool) (n : ℕ) → ((k : ℕ) → k < n → p k ≡ q k) → count_to p n ≡ count_to q n
count-same p q zero f = refl
count-same p q (suc n) f =
    let rest : count_to p n ≡ count_to q n = count-same p q n (λ k l. f k (omega (arith, l))) in
    ap (λ b. bit b + count_to p n) (f n (omega arith)) ∙ ap (λ m. bit (q n) + m) rest

pub count-none : (p : ℕ → Bool) (n : ℕ) → ((k : ℕ) → k < n → p k ≡ false) → count_to p n ≡ 0
count-none p zero f = refl
count-none p (suc n) f =
    let rest : count_to p n ≡ 0 = count-none p n (λ k l. f k (omega (arith, l))) in
    let here : bit (p n) ≡ 0 = ap bit (f n (omega arith)) in
    omega (arith, rest, here)

pub count-all : (p : ℕ → Bool) (n : ℕ) → ((k : ℕ) → k < n → p k ≡ true) → count_to p n ≡ n
count-all p zero f = refl
count-all p (suc n) f =
    let rest : count_to p n ≡ n = count-all p n (λ k l. f k (omega (arith, l))) in
    let one : bit (p n) ≡ 1 = ap bit (f n (omega arith)) in
    omega (arith, rest, one)

-- below a sum: those below the first, and those that follow
pub count-sum : (p : ℕ → Bool) (m n : ℕ) → count_to p (m + n) ≡ count_to p m + count_to (λ k. p (m + k)) n
count-sum p m zero = ap (count_to p) (add-zero m) ∙ sym (add-zero (count_to p m))
count-sum p m (suc n) =
    let up : m + suc n ≡ suc (m + n) = omega arith in
    let rest : count_to p (m + n) ≡ count_to p m + count_to (λ k. p (m + k)) n = count-sum p m n in
    let here : count_to p (m + suc n) ≡ bit (p (m + n)) + count_to p (m + n) = ap (count_to p) up in
    omega (arith, rest, here)

-- a test that looks at the rest by c alone passes m times as many below m * c
pub count-times : (p : ℕ → Bool) (m c : ℕ) → count_to (λ k. p (k % c)) (m * c) ≡ m * count_to p c
count-times p zero c =
    let none : 0 * c ≡ 0 = omega arith in
    let nothing : 0 ≡ 0 * count_to p c = omega arith in
    ap (count_to (λ k. p (k % c))) none ∙ nothing
count-times p (suc m) c =
    let is : suc m * c ≡ m * c + c = omega arith in
    let split : count_to (λ k. p (k % c)) (m * c + c) ≡ count_to (λ k. p (k % c)) (m * c) + count_to (λ k. p ((m * c + k) % c)) c =
    count-sum (λ k. p (k % c)) (m * c) c in
    let last : count_to (λ k. p ((m * c + k) % c)) c ≡ count_to p c = count-same (λ k. p ((m * c + k) % c)) p c (λ k l. ap p (mod-mul-add m c k l)) in
    let first : count_to (λ k. p (k % c)) (m * c) ≡ m * count_to p c = count-times p m c in
    let all : suc m * count_to p c ≡ m * count_to p c + count_to p c = omega arith in
    ap (count_to (λ k. p (k % c))) is ∙ split ∙ ap (λ x. x + count_to (λ k. p ((m * c + k) % c)) c) first ∙ ap (λ x. m * count_to p c + x) last ∙ sym all

-- of two tests that no number passes both
bits : (a b : Bool) → (a && b) ≡ false → bit (a || b) ≡ bit a + bit b
bits true true h = absurd (true≢false h)
bits true false h = refl
bits false b h = sym (zero-add (bit b))

pub count-either : (p q : ℕ → Bool) (n : ℕ) → ((k : ℕ) → (p k && q k) ≡ false) → count_to (λ k. p k || q k) n ≡ count_to p n + count_to q n
count-either p q zero f = refl
count-either p q (suc n) f =
    let rest : count_to (λ k. p k || q k) n ≡ count_to p n + count_to q n = count-either p q n f in
    let here : bit (p n || q n) ≡ bit (p n) + bit (q n) = bits (p n) (q n) (f n) in
    omega (arith, rest, here)

and-false : (b : Bool) → (b && false) ≡ false
and-false true = refl
and-false false = refl

and-true : (b : Bool) → (b && true) ≡ b
and-true true = refl
and-true false = refl

pub not_eq : (x k : ℕ) → (x ≡ k → ⊥) → nat_eq x k ≡ false
not_eq x k f = by (nat_eq x k) refl
  where
    by : (b : Bool) → nat_eq x k ≡ b → nat_eq x k ≡ false
    by true e = absurd (f (eqb-true x k e))
    by false e = e

-- one number alone
pub count-one : (p : ℕ → Bool) (x n : ℕ) → x < n → count_to (λ k. p k && nat_eq x k) n ≡ bit (p x)
count-one p x zero l = absurd (omega (arith, l))
count-one p x (suc n) l = by (nat_eq x n) refl (count-one p x n)
  where
    by : (b : Bool) → nat_eq x n ≡ b → (x < n → count_to (λ k. p k && nat_eq x k) n ≡ bit (p x)) → count_to (λ k. p k && nat_eq x k) (suc n) ≡ bit (p x)
    by true e ih =
        let is : x ≡ n = eqb-true x n e in
        let rest : count_to (λ k. p k && nat_eq x k) n ≡ 0 =
        count-none (λ k. p k && nat_eq x k) n (λ k low. ap (λ b. p k && b) (not_eq x k (λ s. omega (arith, is, s, low))) ∙ and-false (p k)) in
        let here : bit (p n && nat_eq x n) ≡ bit (p x) = ap (λ b. bit (p n && b)) e ∙ ap bit (and-true (p n)) ∙ ap (λ k. bit (p k)) (sym is) in
        omega (arith, rest, here)
    by false e ih =
        let low : x < n = omega (arith, l, eqb-false x n e) in
        let rest : count_to (λ k. p k && nat_eq x k) n ≡ bit (p x) = ih low in
        let here : bit (p n && nat_eq x n) ≡ 0 = ap (λ b. bit (p n && b)) e ∙ ap bit (and-false (p n)) in
        omega (arith, rest, here)

-- fewer pass both tests than the first just where one passes the first alone
pub count-both : (p h : ℕ → Bool) (n : ℕ) → count_to (λ k. p k && h k) n ≤ count_to p n
count-both p h zero = omega arith
count-both p h (suc n) =
    let rest : count_to (λ k. p k && h k) n ≤ count_to p n = count-both p h n in
    let here : bit (p n && h n) ≤ bit (p n) = at (p n) (h n) in
    omega (arith, rest, here)
  where
    at : (a b : Bool) → bit (a && b) ≤ bit a
    at true true = omega arith
    at true false = omega arith
    at false b = omega arith

pub one_alone : (p h : ℕ → Bool) (n : ℕ) → count_to (λ k. p k && h k) n < count_to p n → (k : ℕ) × (k < n) × (p k ≡ true) × (h k ≡ false)
one_alone p h zero l = absurd (omega (arith, l))
one_alone p h (suc n) l = by (p n) (h n) refl refl l (one_alone p h n)
  where
    up : ((k : ℕ) × (k < n) × (p k ≡ true) × (h k ≡ false)) → (k : ℕ) × (k < suc n) × (p k ≡ true) × (h k ≡ false)
    up w = let low : w.0 < n = w.1 in (w.0, omega (arith, low), w.2, w.3)

    by : (a b : Bool) → p n ≡ a → h n ≡ b → bit (a && b) + count_to (λ k. p k && h k) n < bit a + count_to p n
        → (count_to (λ k. p k && h k) n < count_to p n → (k : ℕ) × (k < n) × (p k ≡ true) × (h k ≡ false))
        → (k : ℕ) × (k < suc n) × (p k ≡ true) × (h k ≡ false)
    by true true e f l ih = up (ih (omega (arith, l)))
    by true false e f l ih = (n, omega arith, e, f)
    by false b e f l ih = up (ih (omega (arith, l)))

pub fewer : (p h : ℕ → Bool) (n k : ℕ) → k < n → p k ≡ true → h k ≡ false → count_to (λ j. p j && h j) n < count_to p n
fewer p h zero k l a b = absurd (omega (arith, l))
fewer p h (suc n) k l a b = by (nat_eq k n) refl (λ low. fewer p h n k low a b)
  where
    by : (c : Bool) → nat_eq k n ≡ c → (k < n → count_to (λ j. p j && h j) n < count_to p n) → count_to (λ j. p j && h j) (suc n) < count_to p (suc n)
    by true e ih =
        let is : k ≡ n = eqb-true k n e in
        let one : bit (p n) ≡ 1 = ap (λ j. bit (p j)) (sym is) ∙ ap bit a in
        let none : bit (p n && h n) ≡ 0 = ap (λ j. bit (p j && h j)) (sym is) ∙ ap (λ c. bit (p k && c)) b ∙ ap bit (and-false (p k)) in
        let rest : count_to (λ j. p j && h j) n ≤ count_to p n = count-both p h n in
        omega (arith, one, none, rest)
    by false e ih =
        let low : k < n = omega (arith, l, eqb-false k n e) in
        let rest : count_to (λ j. p j && h j) n < count_to p n = ih low in
        let here : bit (p n && h n) ≤ bit (p n) = at (p n) (h n) in
        omega (arith, rest, here)
      where
        at : (a b : Bool) → bit (a && b) ≤ bit a
        at true true = omega arith
        at true false = omega arith
        at false b = omega arith
