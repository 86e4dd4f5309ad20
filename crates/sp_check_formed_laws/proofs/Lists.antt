-- What holds of each element of a list.
use Rattle.std.proofs.Common.{◌≡◌, ℕ, zero, suc, ◌+◌, ◌<◌, get_or, Bool, true, false, cond, if◌then◌else◌, nat_eq, length, List, [], ◌∷◌, ◌++◌, Some, None, is_some, refl, ap, sym, subst, true≢false, arith}
use Rattle.std.specs.Prelude.{slice_get, slice_set, All}
use Rattle.indexmap.specs.IndexMap.{insert_entry}
use Rattle.sp_check_scopes.specs.Scopes.{entry}
use Rattle.sp_check_env.specs.Env.{changed}

pub some_is : {A : Type 0} (x y : A) → Some x ≡ Some y → x ≡ y
some_is x y e = cc

pub none_some : {A : Type 0} (x : A) → None ≡ Some x → ⊥
none_some x e = true≢false (sym (ap is_some e))

abbrev pub Each : {A : Type 0} → (A → Type 0) → List A → Type 0
Each {A = A} P xs = (k : ℕ) (x : A) → slice_get xs k ≡ Some x → P x

pub each_none : {A : Type 0} (P : A → Type 0) → Each P []
each_none P k x e = absurd (none_some x e)

pub each_pushed : {A : Type 0} (P : A → Type 0) (xs : List A) (y : A) → Each P xs → P y → Each P (xs ++ y ∷ [])
each_pushed P [] y h p zero x e = subst P (some_is y x e) p
each_pushed P [] y h p (suc k) x e = absurd (none_some x e)
each_pushed P (z ∷ zs) y h p zero x e = h zero x e
each_pushed P (z ∷ zs) y h p (suc k) x e = each_pushed P zs y (λ j w g. h (suc j) w g) p k x e

pub each_set : {A : Type 0} (P : A → Type 0) (xs : List A) (i : ℕ) (y : A) → Each P xs → P y → Each P (slice_set xs i y)
each_set P [] i y h p k x e = absurd (none_some x e)
each_set P (z ∷ zs) zero y h p zero x e = subst P (some_is y x e) p
each_set P (z ∷ zs) zero y h p (suc k) x e = h (suc k) x e
each_set P (z ∷ zs) (suc i) y h p zero x e = h zero x e
each_set P (z ∷ zs) (suc i) y h p (suc k) x e = each_set P zs i y (λ j w g. h (suc j) w g) p k x e

pub each_changed : {A : Type 0} (P : A → Type 0) (f : A → A) (xs : List A) (i : ℕ) → Each P xs → ((x : A) → P x → P (f x)) → Each P (changed f xs i)
each_changed P f [] i h p k x e = absurd (none_some x e)
each_changed P f (z ∷ zs) zero h p zero x e = subst P (some_is (f z) x e) (p z (h zero z refl))
each_changed P f (z ∷ zs) zero h p (suc k) x e = h (suc k) x e
each_changed P f (z ∷ zs) (suc i) h p zero x e = h zero x e
each_changed P f (z ∷ zs) (suc i) h p (suc k) x e = each_changed P f zs i (λ j w g. h (suc j) w g) p k x e

-- ---- the same of `All`

pub nil_all : {X : Type 0} (P : X → Type 0) → All P []
nil_all P = λ k d low. absurd (omega arith)

pub cons_all : {X : Type 0} (P : X → Type 0) (x : X) (xs : List X) → P x → All P xs → All P (x ∷ xs)
cons_all {X = X} P x xs p rest = λ k d low. by k d low
  where
    by : (k : ℕ) (d : X) → k < length (x ∷ xs) → P (get_or (x ∷ xs) k d)
    by zero d low = p
    by (suc k) d low = rest k d (omega arith)

pub head_all : {X : Type 0} (P : X → Type 0) (x : X) (xs : List X) → All P (x ∷ xs) → P x
head_all P x xs h = h 0 x (omega arith)

pub tail_all : {X : Type 0} (P : X → Type 0) (x : X) (xs : List X) → All P (x ∷ xs) → All P xs
tail_all P x xs h = λ k d low. h (suc k) d (omega arith)

-- ---- entries that are set or added

pub pushed_length : {A : Type 0} (xs : List A) (y : A) → length (xs ++ y ∷ []) ≡ length xs + 1
pushed_length [] y = omega arith
pushed_length (z ∷ zs) y = let w : length (zs ++ y ∷ []) ≡ length zs + 1 = pushed_length zs y in omega arith

pub set_length : {A : Type 0} (xs : List A) (i : ℕ) (y : A) → length (slice_set xs i y) ≡ length xs
set_length [] i y = refl
set_length (z ∷ zs) zero y = refl
set_length (z ∷ zs) (suc i) y = ap suc (set_length zs i y)

pub pushed_before : {A : Type 0} (xs : List A) (y x : A) (i : ℕ) → slice_get xs i ≡ Some x → slice_get (xs ++ y ∷ []) i ≡ Some x
pushed_before [] y x i e = absurd (none_some x e)
pushed_before (z ∷ zs) y x zero e = e
pushed_before (z ∷ zs) y x (suc i) e = pushed_before zs y x i e

pub pushed_last : {A : Type 0} (xs : List A) (y : A) → slice_get (xs ++ y ∷ []) (length xs) ≡ Some y
pushed_last [] y = refl
pushed_last (z ∷ zs) y = pushed_last zs y

pub get_below : {A : Type 0} (xs : List A) (i : ℕ) (x : A) → slice_get xs i ≡ Some x → i < length xs
get_below [] i x e = absurd (none_some x e)
get_below (y ∷ ys) zero x e = omega arith
get_below (y ∷ ys) (suc i) x e = let low : i < length ys = get_below ys i x e in omega arith

-- an entry that isn't the one that is set
pub set_other : {A : Type 0} (xs : List A) (i : ℕ) (y : A) (k : ℕ) (x : A) → (i ≡ k → ⊥) → slice_get xs k ≡ Some x → slice_get (slice_set xs i y) k ≡ Some x
set_other [] i y k x other e = absurd (none_some x e)
set_other (z ∷ zs) zero y zero x other e = absurd (other refl)
set_other (z ∷ zs) zero y (suc k) x other e = e
set_other (z ∷ zs) (suc i) y zero x other e = e
set_other (z ∷ zs) (suc i) y (suc k) x other e = set_other zs i y k x (λ same. other (ap suc same)) e

pub set_there : {A : Type 0} (xs : List A) (i : ℕ) (y : A) → i < length xs → slice_get (slice_set xs i y) i ≡ Some y
set_there [] i y low = absurd (omega arith)
set_there (z ∷ zs) zero y low = refl
set_there (z ∷ zs) (suc i) y low = set_there zs i y (omega arith)

pub each_first : {A : Type 0} (P : A → Type 0) (x : A) (xs : List A) → P x → Each P xs → Each P (x ∷ xs)
each_first P x xs p h zero y e = subst P (some_is x y e) p
each_first P x xs p h (suc k) y e = h k y e

pub each_behind : {A : Type 0} (P : A → Type 0) (x : A) (xs : List A) → Each P (x ∷ xs) → Each P xs
each_behind P x xs h k y e = h (suc k) y e

-- ---- maps as lists

pub each_inserted : {A : Type 0} (P : A → Type 0) (es : List (ℕ × A)) (n : ℕ) (v : A) → Each (λ e. P e.1) es → P v → Each (λ e. P e.1) (insert_entry nat_eq es n v)
each_inserted P [] n v h p = each_first (λ e. P e.1) (n, v) [] p h
each_inserted {A = A} P (e ∷ es) n v h p = by (nat_eq n e.0) (each_inserted P es n v (each_behind (λ e. P e.1) e es h) p)
  where
    by : (b : Bool) → Each (λ e. P e.1) (insert_entry nat_eq es n v) → Each (λ e. P e.1) (if b then (e.0, v) ∷ es else e ∷ insert_entry nat_eq es n v)
    by true rest = each_first (λ e. P e.1) (e.0, v) es p (each_behind (λ e. P e.1) e es h)
    by false rest = each_first (λ e. P e.1) e (insert_entry nat_eq es n v) (h zero e refl) rest

pub each_found : {A : Type 0} (P : A → Type 0) (es : List (ℕ × A)) (n : ℕ) (v : A) → Each (λ e. P e.1) es → entry es n ≡ Some v → P v
each_found P [] n v h g = absurd (none_some v g)
each_found {A = A} P (e ∷ es) n v h g = by (nat_eq n e.0) g (λ f. each_found P es n v (each_behind (λ e. P e.1) e es h) f)
  where
    by : (b : Bool) → cond b (Some e.1) (entry es n) ≡ Some v → (entry es n ≡ Some v → P v) → P v
    by true g rest = subst P (some_is e.1 v g) (h zero e refl)
    by false g rest = rest g

pub each_appended : {A : Type 0} (P : A → Type 0) (xs ys : List A) → Each P xs → Each P ys → Each P (xs ++ ys)
each_appended P [] ys h g = g
each_appended P (x ∷ xs) ys h g = each_first P x (xs ++ ys) (h zero x refl) (each_appended P xs ys (each_behind P x xs h) g)
