-- Sets that grow, step by step.
use Rattle.std.proofs.Common.{◌≡◌, ◌⊎◌, inl, inr, ℕ, zero, suc, ◌+◌, ◌<◌, ◌≤◌, Bool, true, false, nat_eq, ◌||◌, List, [], ◌∷◌, ◌++◌, length, take, get_or, map, refl, sym, ap, ◌∙◌, subst, arith, eqb-true}
use Rattle.std.specs.Prelude.{flat_map}
use Rattle.std.specs.List.{list_any}
use Rattle.std.proofs.lemmas.Bool.{false≢true, or_cases, eq-eqb}
use Rattle.std.proofs.lemmas.List.Folds.{list_any-append, list_any_more}
use Rattle.sp_lattice.specs.System.{has}
use Rattle.sp_ir.specs.Commands.{Expression}
use Rattle.sp_effect_scene.specs.Analysed.{Analysed}
use Rattle.sp_effect_uses.specs.Parts.{Adds, among, read_by}

-- ---- answers that follow from each other are one

pub both-ways : (a b : Bool) → (a ≡ true → b ≡ true) → (b ≡ true → a ≡ true) → a ≡ b
both-ways true b f g = sym (f refl)
both-ways false true f g = g refl
both-ways false false f g = refl

pub changed : {A : Type 0} (P : A → Type 0) {x y : A} → x ≡ y → P x → P y
changed P e h = subst P e h

pub or-none : (b : Bool) → b ≡ (b || false)
or-none true = refl
or-none false = refl

pub or-true : (b : Bool) → (b || true) ≡ true
or-true true = refl
or-true false = refl

pub or-parts : (a b c : Bool) → ((a || b) || c) ≡ (a || (b || c))
or-parts true b c = refl
or-parts false b c = refl

-- ---- one step, and two

pub adds-none : (set : List ℕ) → Adds (λ r. false) set set
adds-none set r = or-none (has r set)

pub adds-two : (f g : ℕ → Bool) (old mid new : List ℕ) → Adds f old mid → Adds g mid new → Adds (λ r. f r || g r) old new
adds-two f g old mid new h k r = k r ∙ ap (λ b. b || g r) (h r) ∙ or-parts (has r old) (f r) (g r)

pub adds-both : (xs ys : List ℕ) (old mid new : List ℕ) → Adds (among xs) old mid → Adds (among ys) mid new → Adds (among (xs ++ ys)) old new
adds-both xs ys old mid new h k r = adds-two (among xs) (among ys) old mid new h k r ∙ ap (λ b. has r old || b) (sym (list_any-append (nat_eq r) xs ys))

pub adds-as : (f g : ℕ → Bool) (old new : List ℕ) → ((r : ℕ) → f r ≡ g r) → Adds f old new → Adds g old new
adds-as f g old new same h r = h r ∙ ap (λ b. has r old || b) (same r)

pub read-two : (a : Analysed) (e f x : Expression) (old mid new : List ℕ) → read_by a x ≡ read_by a e ++ read_by a f → Adds (among (read_by a e)) old mid → Adds (among (read_by a f)) mid new → Adds (among (read_by a x)) old new
read-two a e f x old mid new is h k r = adds-both (read_by a e) (read_by a f) old mid new h k r ∙ ap (λ rs. has r old || has r rs) (sym is)

-- ---- over a list

pub adds-begun : {A : Type 0} (f : A → ℕ → Bool) (xs : List A) (set : List ℕ) → Adds (λ r. list_any (λ x. f x r) (take 0 xs)) set set
adds-begun f xs set r = or-none (has r set)

pub adds-more : {A : Type 0} (f : A → ℕ → Bool) (xs : List A) (i : ℕ) (d : A) (first old new : List ℕ) → i < length xs → Adds (λ r. list_any (λ x. f x r) (take i xs)) first old → Adds (f (get_or xs i d)) old new
    → Adds (λ r. list_any (λ x. f x r) (take (i + 1) xs)) first new
adds-more f xs i d first old new low h k r =
    adds-two (λ q. list_any (λ x. f x q) (take i xs)) (f (get_or xs i d)) first old new h k r
    ∙ ap (λ b. has r first || b) (sym (list_any_more (λ x. f x r) xs i d low))

pub adds-next : {A : Type 0} (f : A → ℕ → Bool) (xs : List A) (i : ℕ) (x : A) (first old new : List ℕ) → i < length xs → x ≡ get_or xs i x → Adds (λ r. list_any (λ y. f y r) (take i xs)) first old → Adds (f x) old new
    → Adds (λ r. list_any (λ y. f y r) (take (i + 1) xs)) first new
adds-next f xs i x first old new low is h k = adds-more f xs i x first old new low h (subst (λ y. Adds (f y) old new) is k)

pub take-whole : {A : Type 0} (xs : List A) (i : ℕ) → length xs ≤ i → take i xs ≡ xs
take-whole [] zero h = refl
take-whole [] (suc i) h = refl
take-whole (x ∷ xs) zero h = absurd (omega (arith, h))
take-whole (x ∷ xs) (suc i) h = ap (λ ys. x ∷ ys) (take-whole xs i (omega (arith, h)))

pub adds-all : {A : Type 0} (f : A → ℕ → Bool) (xs : List A) (i : ℕ) (first new : List ℕ) → length xs ≤ i → Adds (λ r. list_any (λ x. f x r) (take i xs)) first new → Adds (λ r. list_any (λ x. f x r) xs) first new
adds-all f xs i first new past h r = h r ∙ ap (λ ys. has r first || list_any (λ x. f x r) ys) (take-whole xs i past)

-- ---- lists of lists

pub has-flat_map : {A : Type 0} (f : A → List ℕ) (xs : List A) (r : ℕ) → has r (flat_map f xs) ≡ list_any (λ x. has r (f x)) xs
has-flat_map f [] r = refl
has-flat_map f (x ∷ xs) r = list_any-append (nat_eq r) (f x) (flat_map f xs) ∙ ap (λ b. has r (f x) || b) (has-flat_map f xs r)

pub any-map : {A B : Type 0} (p : B → Bool) (v : A → B) (xs : List A) → list_any p (map v xs) ≡ list_any (λ x. p (v x)) xs
any-map p v [] = refl
any-map p v (x ∷ xs) = ap (λ b. p (v x) || b) (any-map p v xs)

pub has-flat_map-map : {A B : Type 0} (f : B → List ℕ) (v : A → B) (xs : List A) (r : ℕ) → has r (flat_map f (map v xs)) ≡ list_any (λ x. has r (f (v x))) xs
has-flat_map-map f v xs r = has-flat_map f (map v xs) r ∙ any-map (λ y. has r (f y)) v xs

-- ---- one and the same numbers

pub any-alike : {A : Type 0} (p q : A → Bool) (xs : List A) → ((x : A) → p x ≡ q x) → list_any p xs ≡ list_any q xs
any-alike p q [] same = refl
any-alike p q (x ∷ xs) same = ap (λ b. b || list_any p xs) (same x) ∙ ap (λ b. q x || b) (any-alike p q xs same)

pub eq-swap : (x y : ℕ) → nat_eq x y ≡ nat_eq y x
eq-swap x y = both-ways (nat_eq x y) (nat_eq y x) (λ h. eq-eqb y x (sym (eqb-true x y h))) (λ h. eq-eqb x y (sym (eqb-true y x h)))

module _ (p : ℕ → Bool) where
  pub any-there : (xs : List ℕ) (x : ℕ) → has x xs ≡ true → p x ≡ true → list_any p xs ≡ true
  any-there [] x h k = absurd (false≢true h)
  any-there (y ∷ ys) x h k = by (p y) refl (or_cases (nat_eq x y) (has x ys) h) (λ g. any-there ys x g k)
    where
      by : (b : Bool) → p y ≡ b → (nat_eq x y ≡ true) ⊎ (has x ys ≡ true) → (has x ys ≡ true → list_any p ys ≡ true) → (b || list_any p ys) ≡ true
      by true e h rest = refl
      by false e (inl same) rest = absurd (false≢true (sym e ∙ ap p (sym (eqb-true x y same)) ∙ k))
      by false e (inr g) rest = rest g

  pub any-from : (xs : List ℕ) → list_any p xs ≡ true → (x : ℕ) × (has x xs ≡ true) × (p x ≡ true)
  any-from [] h = absurd (false≢true h)
  any-from (y ∷ ys) h = by (or_cases (p y) (list_any p ys) h) (any-from ys)
    where
      by : (p y ≡ true) ⊎ (list_any p ys ≡ true) → (list_any p ys ≡ true → (x : ℕ) × (has x ys ≡ true) × (p x ≡ true)) → (x : ℕ) × (has x (y ∷ ys) ≡ true) × (p x ≡ true)
      by (inl k) rest = (y, ap (λ b. b || has y ys) (eq-eqb y y refl), k)
      by (inr g) rest = let one = rest g in (one.0, ap (λ b. nat_eq one.0 y || b) one.1 ∙ or-true (nat_eq one.0 y), one.2)

  pub any-same : (xs ys : List ℕ) → ((x : ℕ) → has x xs ≡ has x ys) → list_any p xs ≡ list_any p ys
  any-same xs ys same = both-ways (list_any p xs) (list_any p ys)
      (λ h. let one = any-from xs h in any-there ys one.0 (sym (same one.0) ∙ one.1) one.2)
      (λ h. let one = any-from ys h in any-there xs one.0 (same one.0 ∙ one.1) one.2)
