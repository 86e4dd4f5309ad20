-- Elements of lists.
use Rattle.std.proofs.Common.{◌≡◌, ℕ, zero, suc, ◌<◌, Bool, true, false, ◌&&◌, length, map, List, [], ◌∷◌, Some, None, is_some, inl, inr, refl, ap, sym, subst, true≢false, arith}
use Rattle.std.specs.Prelude.{slice_get, slice_index_or, All}
use Rattle.sp_link_structs.specs.Matched.{IsFirst}

pub some_is : {A : Type 0} (x y : A) → Some x ≡ Some y → x ≡ y
some_is x y e = cc

pub none_some : {A : Type 0} (x : A) → None ≡ Some x → ⊥
none_some x e = true≢false (sym (ap is_some e))

pub head_all : {X : Type 0} (P : X → Type 0) (x : X) (xs : List X) → All P (x ∷ xs) → P x
head_all P x xs h = h 0 x (omega arith)

pub tail_all : {X : Type 0} (P : X → Type 0) (x : X) (xs : List X) → All P (x ∷ xs) → All P xs
tail_all P x xs h = λ k d low. h (suc k) d (omega arith)

pub get_below : {A : Type 0} (xs : List A) (i : ℕ) (x : A) → slice_get xs i ≡ Some x → i < length xs
get_below [] i x e = absurd (cc)
get_below (y ∷ ys) zero x e = omega arith
get_below (y ∷ ys) (suc i) x e = let low : i < length ys = get_below ys i x e in omega arith

pub get_there : {A : Type 0} (xs : List A) (i : ℕ) → i < length xs → (x : A) × (slice_get xs i ≡ Some x)
get_there [] i low = absurd (omega arith)
get_there (y ∷ ys) zero low = (y, refl)
get_there (y ∷ ys) (suc i) low = get_there ys i (omega arith)

pub map_got : {A B : Type 0} (f : A → B) (xs : List A) (i : ℕ) (x : A) → slice_get xs i ≡ Some x → slice_get (map f xs) i ≡ Some (f x)
map_got f [] i x e = absurd (cc)
map_got f (y ∷ ys) zero x e = ap (λ z. Some (f z)) (some_is y x e)
map_got f (y ∷ ys) (suc i) x e = map_got f ys i x e

pub map_from : {A B : Type 0} (f : A → B) (xs : List A) (i : ℕ) (y : B) → slice_get (map f xs) i ≡ Some y → (x : A) × (slice_get xs i ≡ Some x) × (f x ≡ y)
map_from f [] i y e = absurd (cc)
map_from f (x ∷ xs) zero y e = (x, refl, some_is (f x) y e)
map_from f (x ∷ xs) (suc i) y e = map_from f xs i y e

pub index_got : {A : Type 0} (xs : List A) (i : ℕ) (x d : A) → slice_get xs i ≡ Some x → slice_index_or xs i d ≡ x
index_got [] i x d e = absurd (cc)
index_got (y ∷ ys) zero x d e = some_is y x e
index_got (y ∷ ys) (suc i) x d e = index_got ys i x d e

pub and_left : (a b : Bool) → (a && b) ≡ true → a ≡ true
and_left true b h = refl
and_left false b h = h

pub and_right : (a b : Bool) → (a && b) ≡ true → b ≡ true
and_right true b h = h
and_right false b h = absurd (true≢false (sym h))

pub first_there : {A : Type 0} (P : A → Type 0) (xs : List A) (r : A) → IsFirst P xs (Some r) → P r
first_there P [] r h = absurd (none_some r (sym h))
first_there P (x ∷ xs) r (inl h) = subst P (some_is x r (sym h.1)) h.0
first_there P (x ∷ xs) r (inr h) = first_there P xs r h.1
