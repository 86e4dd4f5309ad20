-- Elements of lists, and the list of all structs.
use Rattle.std.proofs.Common.{◌≡◌, ℕ, zero, suc, ◌+◌, ◌<◌, length, take, get_or, add-one, Bool, true, false, cond, filter, List, [], ◌∷◌, ◌++◌, Option, Some, None, is_some, ◌⊎◌, inl, inr, refl, ap, sym, subst, ◌∙◌, true≢false, arith}
use Rattle.std.specs.Prelude.{slice_get}
use Rattle.sp_types.specs.Types.{Struct}
use Rattle.sp_link_agreement.specs.Depths.{struct_of_table, struct_at}
use Rattle.sp_link_structs.specs.Joined.{has_members}
use Rattle.sp_link_structs.specs.Matched.{of_unit, of_units}

pub some_is : {A : Type 0} (x y : A) → Some x ≡ Some y → x ≡ y
some_is x y e = cc

pub get_here : {A : Type 0} (xs : List A) (i : ℕ) (d : A) → i < length xs → slice_get xs i ≡ Some (get_or xs i d)
get_here [] i d low = absurd (omega arith)
get_here (y ∷ ys) zero d low = refl
get_here (y ∷ ys) (suc i) d low = get_here ys i d (omega arith)

pub get_is : {A : Type 0} (xs : List A) (i : ℕ) (d x : A) → slice_get xs i ≡ Some x → get_or xs i d ≡ x
get_is [] i d x e = absurd (cc)
get_is (y ∷ ys) zero d x e = some_is y x e
get_is (y ∷ ys) (suc i) d x e = get_is ys i d x e

pub get_below : {A : Type 0} (xs : List A) (i : ℕ) (x : A) → slice_get xs i ≡ Some x → i < length xs
get_below [] i x e = absurd (cc)
get_below (y ∷ ys) zero x e = omega arith
get_below (y ∷ ys) (suc i) x e = let low : i < length ys = get_below ys i x e in omega arith

take_next : {A : Type 0} (xs : List A) (i : ℕ) (d : A) → i < length xs → take (suc i) xs ≡ take i xs ++ get_or xs i d ∷ []
take_next [] i d low = absurd (omega arith)
take_next (y ∷ ys) zero d low = refl
take_next (y ∷ ys) (suc i) d low = ap (λ zs. y ∷ zs) (take_next ys i d (omega arith))

pub take_one_more : {A : Type 0} (xs : List A) (i : ℕ) (d : A) → i < length xs → take i xs ++ get_or xs i d ∷ [] ≡ take (i + 1) xs
take_one_more xs i d low = sym (ap (λ n. take n xs) (add-one i) ∙ take_next xs i d low)

-- numbers are in order
pub in_order : (n m : ℕ) → (n < m) ⊎ ((n ≡ m) ⊎ (m < n))
in_order zero zero = inr (inl refl)
in_order zero (suc m) = inl (omega arith)
in_order (suc n) zero = inr (inr (omega arith))
in_order (suc n) (suc m) = by (in_order n m)
  where
    by : (n < m) ⊎ ((n ≡ m) ⊎ (m < n)) → (suc n < suc m) ⊎ ((suc n ≡ suc m) ⊎ (suc m < suc n))
    by (inl l) = inl (omega (arith, l))
    by (inr (inl e)) = inr (inl (ap suc e))
    by (inr (inr l)) = inr (inr (omega (arith, l)))

-- what holds of those before a place, and there, holds of those up to it
pub one_more : {A : Type 0} (P : A → Type 0) (xs : List A) (i : ℕ) (d : A) → ((j : ℕ) (p : A) → j < i → slice_get xs j ≡ Some p → P p) → P (get_or xs i d)
    → (j : ℕ) (p : A) → j < i + 1 → slice_get xs j ≡ Some p → P p
one_more P xs i d before here j p low at = by (in_order j i)
  where
    by : (j < i) ⊎ ((j ≡ i) ⊎ (i < j)) → P p
    by (inl l) = before j p l at
    by (inr (inl e)) = subst P (get_is xs i d p (ap (slice_get xs) (sym e) ∙ at)) here
    by (inr (inr l)) = absurd (omega (arith, l, low))

pub kept_left : {A : Type 0} (zs ys : List A) (x : A) (i : ℕ) → slice_get zs i ≡ Some x → slice_get (zs ++ ys) i ≡ Some x
kept_left [] ys x i e = absurd (cc)
kept_left (z ∷ zs) ys x zero e = e
kept_left (z ∷ zs) ys x (suc i) e = kept_left zs ys x i e

-- x is in the list
abbrev pub Has : {A : Type 0} → List A → A → Type 0
Has xs x = (i : ℕ) × (slice_get xs i ≡ Some x)

pub has_left : {A : Type 0} (xs ys : List A) (x : A) → Has xs x → Has (xs ++ ys) x
has_left xs ys x w = (w.0, kept_left xs ys x w.0 w.1)

pub has_right : {A : Type 0} (xs ys : List A) (x : A) → Has ys x → Has (xs ++ ys) x
has_right [] ys x w = w
has_right (z ∷ zs) ys x w = let v : Has (zs ++ ys) x = has_right zs ys x w in (suc v.0, v.1)

pub has_either : {A : Type 0} (xs ys : List A) (x : A) (i : ℕ) → slice_get (xs ++ ys) i ≡ Some x → Has xs x ⊎ Has ys x
has_either [] ys x i e = inr (i, e)
has_either (z ∷ zs) ys x zero e = inl (zero, e)
has_either (z ∷ zs) ys x (suc i) e = by (has_either zs ys x i e)
  where
    by : Has zs x ⊎ Has ys x → Has (z ∷ zs) x ⊎ Has ys x
    by (inl w) = inl (suc w.0, w.1)
    by (inr w) = inr w

pub has_filtered : {A : Type 0} (test : A → Bool) (xs : List A) (x : A) (j : ℕ) → slice_get xs j ≡ Some x → test x ≡ true → Has (filter test xs) x
has_filtered test [] x j e t = absurd (cc)
has_filtered test (y ∷ ys) x zero e t =
    let same : y ≡ x = some_is y x e in
    (zero, ap (λ b. slice_get (cond b (y ∷ filter test ys) (filter test ys)) zero) (subst (λ z. test z ≡ true) (sym same) t) ∙ e)
has_filtered test (y ∷ ys) x (suc j) e t = by (test y) (has_filtered test ys x j e t)
  where
    by : (b : Bool) → Has (filter test ys) x → Has (cond b (y ∷ filter test ys) (filter test ys)) x
    by true w = (suc w.0, w.1)
    by false w = w

pub filtered_passes : {A : Type 0} (test : A → Bool) (xs : List A) (x : A) (i : ℕ) → slice_get (filter test xs) i ≡ Some x → test x ≡ true
filtered_passes test [] x i e = absurd (cc)
filtered_passes test (y ∷ ys) x i e = by (test y) refl i e (λ k g. filtered_passes test ys x k g)
  where
    by : (b : Bool) → test y ≡ b → (i : ℕ) → slice_get (cond b (y ∷ filter test ys) (filter test ys)) i ≡ Some x → ((k : ℕ) → slice_get (filter test ys) k ≡ Some x → test x ≡ true) → test x ≡ true
    by true t zero e ih = subst (λ z. test z ≡ true) (some_is y x e) t
    by true t (suc i) e ih = ih i e
    by false t i e ih = ih i e

-- ---- the list of all structs

pub at_unit : (u k : ℕ) (ss : List Struct) (j : ℕ) (s : Struct) → slice_get ss j ≡ Some s → slice_get (of_unit u k ss) j ≡ Some (u, k + j)
at_unit u k [] j s e = absurd (cc)
at_unit u k (t ∷ ts) zero s e = let same : k ≡ k + 0 = omega arith in λ i. Some (u, same i)
at_unit u k (t ∷ ts) (suc j) s e = let same : suc k + j ≡ k + suc j = omega arith in at_unit u (suc k) ts j s e ∙ (λ i. Some (u, same i))

pub in_units : (a : ℕ) (us : List (List Struct)) (i : ℕ) (ss : List Struct) (k : ℕ) (s : Struct) → slice_get us i ≡ Some ss → slice_get ss k ≡ Some s → Has (of_units a us) (a + i, k)
in_units a [] i ss k s e g = absurd (cc)
in_units a (ts ∷ us) zero ss k s e g =
    let same : ts ≡ ss = some_is ts ss e in
    let left : a ≡ a + 0 = omega arith in
    let right : 0 + k ≡ k = omega arith in
    has_left (of_unit a 0 ts) (of_units (suc a) us) (a + 0, k)
    (k, at_unit a 0 ts k s (subst (λ z. slice_get z k ≡ Some s) (sym same) g) ∙ (λ i. Some (left i, right i)))
in_units a (ts ∷ us) (suc i) ss k s e g =
    let next : suc a + i ≡ a + suc i = omega arith in
    has_right (of_unit a 0 ts) (of_units (suc a) us) (a + suc i, k)
    (subst (λ z. Has (of_units (suc a) us) (z, k)) next (in_units (suc a) us i ss k s e g))

pub there_in : (us : List (List Struct)) (x : ℕ × ℕ) → is_some (struct_at us x) ≡ true → Has (of_units 0 us) x
there_in us x h = table (slice_get us x.0) refl h
  where
    entry : (ss : List Struct) (o : Option Struct) → slice_get us x.0 ≡ Some ss → slice_get ss x.1 ≡ o → is_some o ≡ true → Has (of_units 0 us) x
    entry ss None e g p = absurd (true≢false (sym p))
    entry ss (Some s) e g p = let left : 0 + x.0 ≡ x.0 = omega arith in subst (λ z. Has (of_units 0 us) (z, x.1)) left (in_units 0 us x.0 ss x.1 s e g)

    table : (o : Option (List Struct)) → slice_get us x.0 ≡ o → is_some (struct_of_table o x.1) ≡ true → Has (of_units 0 us) x
    table None e p = absurd (true≢false (sym p))
    table (Some ss) e p = entry ss (slice_get ss x.1) e refl p

pub complete_there : (s : Option Struct) → has_members s ≡ true → is_some s ≡ true
complete_there None h = absurd (true≢false (sym h))
complete_there (Some s) h = refl

pub of_filtered : {A : Type 0} (test : A → Bool) (xs : List A) (i : ℕ) (x : A) → slice_get (filter test xs) i ≡ Some x → Has xs x
of_filtered test [] i x e = absurd (cc)
of_filtered test (y ∷ ys) i x e = by (test y) i e (λ k g. of_filtered test ys k x g)
  where
    by : (b : Bool) → (i : ℕ) → slice_get (cond b (y ∷ filter test ys) (filter test ys)) i ≡ Some x → ((k : ℕ) → slice_get (filter test ys) k ≡ Some x → Has ys x) → Has (y ∷ ys) x
    by true zero e ih = (zero, e)
    by true (suc i) e ih = let w : Has ys x = ih i e in (suc w.0, w.1)
    by false i e ih = let w : Has ys x = ih i e in (suc w.0, w.1)

pub from_unit : (u k : ℕ) (ss : List Struct) (i : ℕ) (x : ℕ × ℕ) → slice_get (of_unit u k ss) i ≡ Some x → (s : Struct) × (slice_get ss i ≡ Some s) × ((u, k + i) ≡ x)
from_unit u k [] i x e = absurd (cc)
from_unit u k (t ∷ ts) zero x e = let same : k + 0 ≡ k = omega arith in (t, refl, (λ i. (u, same i)) ∙ some_is (u, k) x e)
from_unit u k (t ∷ ts) (suc i) x e =
    let w : (s : Struct) × (slice_get ts i ≡ Some s) × ((u, suc k + i) ≡ x) = from_unit u (suc k) ts i x e in
    let same : k + suc i ≡ suc k + i = omega arith in
    (w.0, w.1, (λ i. (u, same i)) ∙ w.2)

pub from_units : (a : ℕ) (us : List (List Struct)) (i : ℕ) (x : ℕ × ℕ) → slice_get (of_units a us) i ≡ Some x → (j k : ℕ) × (ss : List Struct) × (s : Struct) × (slice_get us j ≡ Some ss) × (slice_get ss k ≡ Some s) × ((a + j, k) ≡ x)
from_units a [] i x e = absurd (cc)
from_units a (ts ∷ us) i x e = by (has_either (of_unit a 0 ts) (of_units (suc a) us) x i e) (λ k g. from_units (suc a) us k x g)
  where
    by : Has (of_unit a 0 ts) x ⊎ Has (of_units (suc a) us) x
        → ((k : ℕ) → slice_get (of_units (suc a) us) k ≡ Some x → (j k : ℕ) × (ss : List Struct) × (s : Struct) × (slice_get us j ≡ Some ss) × (slice_get ss k ≡ Some s) × ((suc a + j, k) ≡ x))
        → (j k : ℕ) × (ss : List Struct) × (s : Struct) × (slice_get (ts ∷ us) j ≡ Some ss) × (slice_get ss k ≡ Some s) × ((a + j, k) ≡ x)
    by (inl w) ih =
        let v : (s : Struct) × (slice_get ts w.0 ≡ Some s) × ((a, 0 + w.0) ≡ x) = from_unit a 0 ts w.0 x w.1 in
        let same : a + 0 ≡ a = omega arith in
        let zero_on : w.0 ≡ 0 + w.0 = omega arith in
        (zero, w.0, ts, v.0, refl, v.1, (λ i. (same i, zero_on i)) ∙ v.2)
    by (inr w) ih =
        let v : (j k : ℕ) × (ss : List Struct) × (s : Struct) × (slice_get us j ≡ Some ss) × (slice_get ss k ≡ Some s) × ((suc a + j, k) ≡ x) = ih w.0 w.1 in
        let same : a + suc v.0 ≡ suc a + v.0 = omega arith in
        (suc v.0, v.1, v.2, v.3, v.4, v.5, (λ i. (same i, v.1)) ∙ v.6)
