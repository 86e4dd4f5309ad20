-- Parts of a text of bytes are bytes.
use Rattle.std.proofs.Common.{ℕ, zero, suc, ◌<◌, Bool, true, false, cond, List, [], ◌∷◌, ◌++◌, take, drop, All}
use Rattle.std.proofs.lemmas.List.Elements.{All-nil, All-cons, All-head, All-tail}
use Rattle.sp_lexer.specs.Bytes.{front, after}

abbrev pub AreBytes : List ℕ → Type 0
AreBytes bs = All (λ b. b < 256) bs

pub choose : {A : Type 0} (P : A → Type 0) (yes : Bool) (x y : A) → P x → P y → P (cond yes x y)
choose P true x y p q = p
choose P false x y p q = q

pub byte_first : (b : ℕ) (bs : List ℕ) → AreBytes (b ∷ bs) → b < 256
byte_first b bs h = All-head (λ c. c < 256) b bs h

pub bytes_rest : (b : ℕ) (bs : List ℕ) → AreBytes (b ∷ bs) → AreBytes bs
bytes_rest b bs h = All-tail (λ c. c < 256) b bs h

pub bytes_behind : (xs ys : List ℕ) → AreBytes (xs ++ ys) → AreBytes ys
bytes_behind [] ys h = h
bytes_behind (x ∷ xs) ys h = bytes_behind xs ys (bytes_rest x (xs ++ ys) h)

pub bytes_drop : (n : ℕ) (xs : List ℕ) → AreBytes xs → AreBytes (drop n xs)
bytes_drop zero xs h = h
bytes_drop (suc n) [] h = h
bytes_drop (suc n) (x ∷ xs) h = bytes_drop n xs (bytes_rest x xs h)

pub bytes_take : (n : ℕ) (xs : List ℕ) → AreBytes xs → AreBytes (take n xs)
bytes_take zero xs h = All-nil (λ c. c < 256)
bytes_take (suc n) [] h = h
bytes_take (suc n) (x ∷ xs) h = All-cons (λ c. c < 256) x (take n xs) (byte_first x xs h) (bytes_take n xs (bytes_rest x xs h))

pub bytes_front : (p : ℕ → Bool) (xs : List ℕ) → AreBytes xs → AreBytes (front p xs)
bytes_front p [] h = h
bytes_front p (x ∷ xs) h = choose AreBytes (p x) _ _
    (All-cons (λ c. c < 256) x (front p xs) (byte_first x xs h) (bytes_front p xs (bytes_rest x xs h))) (All-nil (λ c. c < 256))

pub bytes_after : (p : ℕ → Bool) (xs : List ℕ) → AreBytes xs → AreBytes (after p xs)
bytes_after p [] h = h
bytes_after p (x ∷ xs) h = choose AreBytes (p x) _ _ (bytes_after p xs (bytes_rest x xs h)) h

module _ (ys : List ℕ) where
  pub first_bytes : (xs : List ℕ) → AreBytes (xs ++ ys) → AreBytes xs
  first_bytes [] h = All-nil (λ c. c < 256)
  first_bytes (x ∷ xs) h = All-cons (λ c. c < 256) x xs (byte_first x (xs ++ ys) h) (first_bytes xs (bytes_rest x (xs ++ ys) h))
