-- What belongs to numbers, one by one.
use Rattle.std.proofs.Common.{◌≡◌, ℕ, zero, suc, ◌<◌, List, [], ◌∷◌, ◌++◌, length, map, take, get_or, refl, ap, ◌∙◌, arith}
use Rattle.sp_defuse.specs.Lists.{Each}

module _ {A : Type 0} (F : ℕ → A → Type 0) where
  pub each-next : (ns : List ℕ) (xs : List A) (i d : ℕ) (x : A) → i < length ns → Each F (take i ns) xs → F (get_or ns i d) x → Each F (take (suc i) ns) (xs ++ x ∷ [])
  each-next [] xs i d x low are is = absurd (omega arith)
  each-next (n ∷ ns) [] zero d x low are is = (is, tt)
  each-next (n ∷ ns) (y ∷ ys) zero d x low are is = absurd are
  each-next (n ∷ ns) [] (suc i) d x low are is = absurd are
  each-next (n ∷ ns) (y ∷ ys) (suc i) d x low are is = (are.0, each-next ns ys i d x (omega arith) are.1 is)

  pub each-long : (ns : List ℕ) (xs : List A) → Each F ns xs → length xs ≡ length ns
  each-long [] [] are = refl
  each-long [] (x ∷ xs) are = absurd are
  each-long (n ∷ ns) [] are = absurd are
  each-long (n ∷ ns) (x ∷ xs) are = ap suc (each-long ns xs are.1)

  pub each-at : (ns : List ℕ) (xs : List A) (k d : ℕ) (x : A) → k < length ns → Each F ns xs → F (get_or ns k d) (get_or xs k x)
  each-at [] xs k d x low are = absurd (omega arith)
  each-at (n ∷ ns) [] k d x low are = absurd are
  each-at (n ∷ ns) (y ∷ ys) zero d x low are = are.0
  each-at (n ∷ ns) (y ∷ ys) (suc k) d x low are = each-at ns ys k d x (omega arith) are.1

  -- a part of each that is its number
  pub each-map : (f : A → ℕ) → ((n : ℕ) (x : A) → F n x → f x ≡ n) → (ns : List ℕ) (xs : List A) → Each F ns xs → map f xs ≡ ns
  each-map f same [] [] are = refl
  each-map f same [] (x ∷ xs) are = absurd are
  each-map f same (n ∷ ns) [] are = absurd are
  each-map f same (n ∷ ns) (x ∷ xs) are = ap (λ m. m ∷ map f xs) (same n x are.0) ∙ ap (λ ms. n ∷ ms) (each-map f same ns xs are.1)

  -- what belongs to a number, and a list of each as it stands there
  pub each-get : (ns : List ℕ) (xs : List A) (k : ℕ) → k < length ns → Each F ns xs → (x : A) × F (get_or ns k 0) x × ((f : A → List ℕ) → get_or (map f xs) k [] ≡ f x)
  each-get [] xs k low are = absurd (omega arith)
  each-get (n ∷ ns) [] k low are = absurd are
  each-get (n ∷ ns) (x ∷ xs) zero low are = (x, are.0, λ f. refl)
  each-get (n ∷ ns) (x ∷ xs) (suc k) low are = let later = each-get ns xs k (omega arith) are.1 in (later.0, later.1, later.2)
