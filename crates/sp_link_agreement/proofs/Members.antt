-- Elements of lists by their index, and of a list of pairs to which others are added, each once.
use Rattle.std.proofs.Common.{◌≡◌, ℕ, zero, suc, ◌<◌, ◌≤◌, Bool, true, false, ◌||◌, ◌==◌, List, [], ◌∷◌, ◌++◌, map, length, take, get_or, Some, ◌⊎◌, inl, inr, refl, ap, sym, subst, ◌∙◌, true≢false, arith, eqb-true, if◌then◌else◌}
use Rattle.std.proofs.lemmas.List.{take-append-le}
use Rattle.std.specs.Prelude.{slice_get}
use Rattle.std.specs.List.{list_any}
use Rattle.indexmap.specs.IndexSet.{insert_key, insert_all}
use Rattle.sp_link_agreement.specs.Inner.{Pair, same_entity, same_pair}
use Rattle.sp_link_agreement.proofs.Parts.{both_and, and_left, and_right, passes}

-- x is in the list
abbrev pub Has : {A : Type 0} → List A → A → Type 0
Has xs x = (i : ℕ) × (slice_get xs i ≡ Some x)

-- ---- lists

pub get_at : {A : Type 0} (xs : List A) (i : ℕ) (d : A) → i < length xs → slice_get xs i ≡ Some (get_or xs i d)
get_at [] i d low = absurd (omega arith)
get_at (y ∷ ys) zero d low = refl
get_at (y ∷ ys) (suc i) d low = get_at ys i d (omega arith)

pub get_below : {A : Type 0} (xs : List A) (i : ℕ) (x : A) → slice_get xs i ≡ Some x → i < length xs
get_below [] i x e = absurd (cc)
get_below (y ∷ ys) zero x e = omega arith
get_below (y ∷ ys) (suc i) x e = let low : i < length ys = get_below ys i x e in omega arith

pub get_map : {A B : Type 0} (f : A → B) (xs : List A) (i : ℕ) (x : A) → slice_get xs i ≡ Some x → slice_get (map f xs) i ≡ Some (f x)
get_map f [] i x e = absurd (cc)
get_map f (y ∷ ys) zero x e = let w : y ≡ x = cc in ap (λ z. Some (f z)) w
get_map f (y ∷ ys) (suc i) x e = get_map f ys i x e

pub map_get : {A B : Type 0} (f : A → B) (xs : List A) (i : ℕ) (y : B) → slice_get (map f xs) i ≡ Some y → (x : A) × (slice_get xs i ≡ Some x) × (f x ≡ y)
map_get f [] i y e = absurd (cc)
map_get f (x ∷ xs) zero y e = let w : f x ≡ y = cc in (x, refl, w)
map_get f (x ∷ xs) (suc i) y e = map_get f xs i y e

get_front : {A : Type 0} (xs : List A) (x : A) (i : ℕ) → i < length xs → slice_get (xs ++ x ∷ []) i ≡ slice_get xs i
get_front [] x i low = absurd (omega arith)
get_front (y ∷ ys) x zero low = refl
get_front (y ∷ ys) x (suc i) low = get_front ys x i (omega arith)

get_last : {A : Type 0} (xs : List A) (x : A) → Has (xs ++ x ∷ []) x
get_last [] x = (zero, refl)
get_last (y ∷ ys) x = let w : Has (ys ++ x ∷ []) x = get_last ys x in (suc w.0, w.1)

get_pushed : {A : Type 0} (xs : List A) (x : A) (i : ℕ) (p : A) → slice_get (xs ++ x ∷ []) i ≡ Some p → (slice_get xs i ≡ Some p) ⊎ (x ≡ p)
get_pushed [] x zero p e = let w : x ≡ p = cc in inr w
get_pushed [] x (suc i) p e = absurd (cc)
get_pushed (y ∷ ys) x zero p e = inl e
get_pushed (y ∷ ys) x (suc i) p e = get_pushed ys x i p e

-- ---- tests of each

pub passes_at : (agree : ℕ → ℕ → Bool) (qs : List (ℕ × ℕ)) (i : ℕ) (q : ℕ × ℕ) → passes agree qs ≡ true → slice_get qs i ≡ Some q → agree q.0 q.1 ≡ true
passes_at agree [] i q h e = absurd (cc)
passes_at agree (x ∷ xs) zero q h e = let w : x ≡ q = cc in subst (λ z. agree z.0 z.1 ≡ true) w (and_left (agree x.0 x.1) (passes agree xs) h)
passes_at agree (x ∷ xs) (suc i) q h e = passes_at agree xs i q (and_right (agree x.0 x.1) (passes agree xs) h) e

pub all_pass : (agree : ℕ → ℕ → Bool) (qs : List (ℕ × ℕ)) → ((i : ℕ) (q : ℕ × ℕ) → slice_get qs i ≡ Some q → agree q.0 q.1 ≡ true) → passes agree qs ≡ true
all_pass agree [] f = refl
all_pass agree (x ∷ xs) f = both_and (f zero x refl) (all_pass agree xs (λ i q e. f (suc i) q e))

-- ---- pairs

entity_is : (x y : ℕ × ℕ) → same_entity x y ≡ true → x ≡ y
entity_is x y h =
    let a : x.0 ≡ y.0 = eqb-true x.0 y.0 (and_left (x.0 == y.0) (x.1 == y.1) h) in
    let b : x.1 ≡ y.1 = eqb-true x.1 y.1 (and_right (x.0 == y.0) (x.1 == y.1) h) in
    λ i. (a i, b i)

pair_is : (p q : Pair) → same_pair p q ≡ true → p ≡ q
pair_is p q h =
    let a : p.0 ≡ q.0 = entity_is p.0 q.0 (and_left (same_entity p.0 q.0) (same_entity p.1 q.1) h) in
    let b : p.1 ≡ q.1 = entity_is p.1 q.1 (and_right (same_entity p.0 q.0) (same_entity p.1 q.1) h) in
    λ i. (a i, b i)

pub found_has : (ks : List Pair) (k : Pair) → list_any (same_pair k) ks ≡ true → Has ks k
found_has [] k h = absurd (true≢false (sym h))
found_has (x ∷ xs) k h = by (same_pair k x) refl h (λ g. found_has xs k g)
  where
    by : (b : Bool) → same_pair k x ≡ b → (b || list_any (same_pair k) xs) ≡ true → (list_any (same_pair k) xs ≡ true → Has xs k) → Has (x ∷ xs) k
    by true e g rest = (zero, ap Some (sym (pair_is k x e)))
    by false e g rest = let w : Has xs k = rest g in (suc w.0, w.1)

-- ---- one more

pub key_same : (ks : List Pair) (k : Pair) (i : ℕ) → i < length ks → slice_get (insert_key same_pair ks k) i ≡ slice_get ks i
key_same ks k i low = elim (list_any (same_pair k) ks) as (λ b. slice_get (if b then ks else ks ++ k ∷ []) i ≡ slice_get ks i) [ true ↦ refl | false ↦ get_front ks k i low ]

pub key_has : (ks : List Pair) (k : Pair) → Has (insert_key same_pair ks k) k
key_has ks k = by (list_any (same_pair k) ks) refl
  where
    by : (b : Bool) → list_any (same_pair k) ks ≡ b → Has (if b then ks else ks ++ k ∷ []) k
    by true e = found_has ks k e
    by false e = get_last ks k

pub key_from : (ks : List Pair) (k : Pair) (i : ℕ) (p : Pair) → slice_get (insert_key same_pair ks k) i ≡ Some p → (slice_get ks i ≡ Some p) ⊎ (k ≡ p)
key_from ks k i p = elim (list_any (same_pair k) ks) as (λ b. slice_get (if b then ks else ks ++ k ∷ []) i ≡ Some p → (slice_get ks i ≡ Some p) ⊎ (k ≡ p)) [ true ↦ λ e. inl e | false ↦ λ e. get_pushed ks k i p e ]

pub key_longer : (ks : List Pair) (k : Pair) → length ks ≤ length (insert_key same_pair ks k)
key_longer ks k = elim (list_any (same_pair k) ks) as (λ b. length ks ≤ length (if b then ks else ks ++ k ∷ [])) [ true ↦ omega arith | false ↦ longer ks k ]
  where
    longer : (xs : List Pair) (x : Pair) → length xs ≤ length (xs ++ x ∷ [])
    longer [] x = omega arith
    longer (y ∷ ys) x = let w : length ys ≤ length (ys ++ x ∷ []) = longer ys x in omega arith

pub key_front : (ks : List Pair) (k : Pair) (n : ℕ) → n ≤ length ks → take n (insert_key same_pair ks k) ≡ take n ks
key_front ks k n low = elim (list_any (same_pair k) ks) as (λ b. take n (if b then ks else ks ++ k ∷ []) ≡ take n ks) [ true ↦ refl | false ↦ take-append-le n ks (k ∷ []) low ]

-- ---- many more

pub all_same : (ks xs : List Pair) (i : ℕ) → i < length ks → slice_get (insert_all same_pair ks xs) i ≡ slice_get ks i
all_same ks [] i low = refl
all_same ks (x ∷ xs) i low =
    let longer : length ks ≤ length (insert_key same_pair ks x) = key_longer ks x in
    all_same (insert_key same_pair ks x) xs i (omega arith) ∙ key_same ks x i low

pub all_kept : (ks xs : List Pair) (p : Pair) → Has ks p → Has (insert_all same_pair ks xs) p
all_kept ks xs p w = (w.0, all_same ks xs w.0 (get_below ks w.0 p w.1) ∙ w.1)

pub all_has : (ks xs : List Pair) (i : ℕ) (p : Pair) → slice_get xs i ≡ Some p → Has (insert_all same_pair ks xs) p
all_has ks [] i p e = absurd (cc)
all_has ks (x ∷ xs) zero p e = let w : x ≡ p = cc in subst (Has (insert_all same_pair ks (x ∷ xs))) w (all_kept (insert_key same_pair ks x) xs x (key_has ks x))
all_has ks (x ∷ xs) (suc i) p e = all_has (insert_key same_pair ks x) xs i p e

from_one : (ks xs : List Pair) (x : Pair) (i : ℕ) (p : Pair) → (slice_get ks i ≡ Some p) ⊎ (x ≡ p) → (slice_get ks i ≡ Some p) ⊎ Has (x ∷ xs) p
from_one ks xs x i p (inl e) = inl e
from_one ks xs x i p (inr e) = inr (zero, ap Some e)

from_rest : (ks xs : List Pair) (x : Pair) (i : ℕ) (p : Pair) → (slice_get (insert_key same_pair ks x) i ≡ Some p) ⊎ Has xs p → (slice_get ks i ≡ Some p) ⊎ Has (x ∷ xs) p
from_rest ks xs x i p (inl e) = from_one ks xs x i p (key_from ks x i p e)
from_rest ks xs x i p (inr w) = inr (suc w.0, w.1)

pub all_from : (ks xs : List Pair) (i : ℕ) (p : Pair) → slice_get (insert_all same_pair ks xs) i ≡ Some p → (slice_get ks i ≡ Some p) ⊎ Has xs p
all_from ks [] i p e = inl e
all_from ks (x ∷ xs) i p e = from_rest ks xs x i p (all_from (insert_key same_pair ks x) xs i p e)

pub all_longer : (ks xs : List Pair) → length ks ≤ length (insert_all same_pair ks xs)
all_longer ks [] = omega arith
all_longer ks (x ∷ xs) =
    let one : length ks ≤ length (insert_key same_pair ks x) = key_longer ks x in
    let more : length (insert_key same_pair ks x) ≤ length (insert_all same_pair (insert_key same_pair ks x) xs) = all_longer (insert_key same_pair ks x) xs in
    omega arith

pub all_front : (ks xs : List Pair) (n : ℕ) → n ≤ length ks → take n (insert_all same_pair ks xs) ≡ take n ks
all_front ks [] n low = refl
all_front ks (x ∷ xs) n low =
    let longer : length ks ≤ length (insert_key same_pair ks x) = key_longer ks x in
    all_front (insert_key same_pair ks x) xs n (omega arith) ∙ key_front ks x n low
