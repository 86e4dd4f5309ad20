-- Laws of the fronts of a class of bytes.
use Rattle.std.proofs.Common.{◌≡◌, ℕ, suc, ◌+◌, ◌≤◌, Bool, true, false, cond, List, [], ◌∷◌, ◌++◌, length, length-append, length-take, take, drop, refl, sym, ap, ◌∙◌, arith}
use Rattle.std.specs.List.{prefix_len}
use Rattle.std.proofs.lemmas.List.Sums.{prefix_len-le-length}
use Rattle.std.specs.Prelude.{◌==◌}
use Rattle.std.proofs.lemmas.List.{nil_from_length}
use Rattle.std.proofs.lemmas.Bool.{eqb-true}
use Rattle.sp_lexer.specs.Bytes.{front, after}

one_more : (n : ℕ) → 1 + n ≡ suc n
one_more n = omega arith

module _ (p : ℕ → Bool) where
  pub front-take : (xs : List ℕ) → take (prefix_len p xs) xs ≡ front p xs
  front-take [] = refl
  front-take (x ∷ xs) =
      elim (p x) as (λ b. take (cond b (1 + prefix_len p xs) 0) (x ∷ xs) ≡ cond b (x ∷ front p xs) [])
      [ true ↦ rw (one_more (prefix_len p xs)) (ap (λ ys. x ∷ ys) (front-take xs)) | false ↦ refl ]

  pub after-drop : (xs : List ℕ) → drop (prefix_len p xs) xs ≡ after p xs
  after-drop [] = refl
  after-drop (x ∷ xs) =
      elim (p x) as (λ b. drop (cond b (1 + prefix_len p xs) 0) (x ∷ xs) ≡ cond b (after p xs) (x ∷ xs))
      [ true ↦ rw (one_more (prefix_len p xs)) (after-drop xs) | false ↦ refl ]

  pub front-after : (xs : List ℕ) → xs ≡ front p xs ++ after p xs
  front-after [] = refl
  front-after (x ∷ xs) =
      elim (p x) as (λ b. x ∷ xs ≡ cond b (x ∷ front p xs) [] ++ cond b (after p xs) (x ∷ xs))
      [ true ↦ ap (λ ys. x ∷ ys) (front-after xs) | false ↦ refl ]

pub front_length : (p : ℕ → Bool) (xs : List ℕ) → length (front p xs) ≤ length xs
front_length p xs =
    let parts : length xs ≡ length (front p xs) + length (after p xs) = ap length (front-after p xs) ∙ length-append (front p xs) (after p xs) in
    omega (arith, parts)

pub after_length : (p : ℕ → Bool) (xs : List ℕ) → length (after p xs) ≤ length xs
after_length p xs =
    let parts : length xs ≡ length (front p xs) + length (after p xs) = ap length (front-after p xs) ∙ length-append (front p xs) (after p xs) in
    omega (arith, parts)

pub front_of_front_length : (p : ℕ → Bool) (n : ℕ) (xs : List ℕ) → length (front p (take n xs)) ≤ length xs
front_of_front_length p n xs = omega (arith, front_length p (take n xs), length-take n xs)

-- what `is_empty` tells
pub nothing_left : (xs : List ℕ) → true ≡ (length xs == 0) → xs ≡ []
nothing_left xs h = nil_from_length xs (eqb-true (length xs) 0 (sym h))

pub ruleset split_laws = (front-take, after-drop, prefix_len-le-length)

pub ruleset shorter_laws = (front_of_front_length, after_length)
