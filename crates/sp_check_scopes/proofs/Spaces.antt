-- The first names of a space, and those behind them.
use Rattle.std.proofs.Common.{◌≡◌, ℕ, Bool, true, false, cond, List, [], ◌∷◌, ◌++◌, refl, sym, ap, Some, None, Result, Ok, Err, is_ok, is_err}
use Rattle.std.proofs.lemmas.Bool.{false≢true}
use Rattle.std.specs.Prelude.{nat_eq}
use Rattle.std.specs.Map.{lookup, set_value}
use Rattle.indexmap.specs.IndexMap.{insert_entry}
use Rattle.sp_check_scopes.specs.Scopes.{or_else}
use Rattle.sp_check_scopes.specs.Views.{replaced_or}

abbrev err_or : {A : Type 0} → Result (Unit {0}) A → A → A
err_or (Ok u) other = other
err_or (Err e) other = e

module _ {A : Type 0} where
  -- what lacks a name leaves it to those behind
  pub lookup-behind : (xs ys : List (ℕ × A)) (n : ℕ) → lookup (nat_eq n) (xs ++ ys) ≡ or_else (lookup (nat_eq n) xs) (lookup (nat_eq n) ys)
  lookup-behind [] ys n = refl
  lookup-behind (x ∷ xs) ys n = by (nat_eq n x.0) (lookup-behind xs ys n)
    where
      by : (b : Bool) → lookup (nat_eq n) (xs ++ ys) ≡ or_else (lookup (nat_eq n) xs) (lookup (nat_eq n) ys) → cond b (Some x.1) (lookup (nat_eq n) (xs ++ ys)) ≡ or_else (cond b (Some x.1) (lookup (nat_eq n) xs)) (lookup (nat_eq n) ys)
      by true rest = refl
      by false rest = rest

  -- where a name is there, it takes the value
  pub insert-first : (xs ys : List (ℕ × A)) (n : ℕ) (v : A) → replaced_or (lookup (nat_eq n) xs) v ≡ Ok tt → set_value (nat_eq n) xs v ++ ys ≡ insert_entry nat_eq (xs ++ ys) n v
  insert-first [] ys n v there = absurd (false≢true (ap is_ok there))
  insert-first (x ∷ xs) ys n v there = by (nat_eq n x.0) (insert-first xs ys n v) there
    where
      by : (b : Bool) → (replaced_or (lookup (nat_eq n) xs) v ≡ Ok tt → set_value (nat_eq n) xs v ++ ys ≡ insert_entry nat_eq (xs ++ ys) n v) → replaced_or (cond b (Some x.1) (lookup (nat_eq n) xs)) v ≡ Ok tt
          → cond b ((x.0, v) ∷ xs) (x ∷ set_value (nat_eq n) xs v) ++ ys ≡ cond b ((x.0, v) ∷ (xs ++ ys)) (x ∷ insert_entry nat_eq (xs ++ ys) n v)
      by true rest there = refl
      by false rest there = ap (λ zs. x ∷ zs) (rest there)

  -- where these lack it, it goes behind them
  pub insert-behind : (xs ys : List (ℕ × A)) (n : ℕ) (v w : A) → replaced_or (lookup (nat_eq n) xs) v ≡ Err w → xs ++ insert_entry nat_eq ys n w ≡ insert_entry nat_eq (xs ++ ys) n v
  insert-behind [] ys n v w lacks = ap (λ r. insert_entry nat_eq ys n (err_or r v)) (sym lacks)
  insert-behind (x ∷ xs) ys n v w lacks = by (nat_eq n x.0) (insert-behind xs ys n v w) lacks
    where
      by : (b : Bool) → (replaced_or (lookup (nat_eq n) xs) v ≡ Err w → xs ++ insert_entry nat_eq ys n w ≡ insert_entry nat_eq (xs ++ ys) n v) → replaced_or (cond b (Some x.1) (lookup (nat_eq n) xs)) v ≡ Err w
          → x ∷ (xs ++ insert_entry nat_eq ys n w) ≡ cond b ((x.0, v) ∷ (xs ++ ys)) (x ∷ insert_entry nat_eq (xs ++ ys) n v)
      by true rest lacks = absurd (false≢true (ap is_err lacks))
      by false rest lacks = ap (λ zs. x ∷ zs) (rest lacks)

  -- and these stay as they are
  pub set-lacking : (xs : List (ℕ × A)) (n : ℕ) (v w : A) → replaced_or (lookup (nat_eq n) xs) v ≡ Err w → set_value (nat_eq n) xs v ≡ xs
  set-lacking [] n v w lacks = refl
  set-lacking (x ∷ xs) n v w lacks = by (nat_eq n x.0) (set-lacking xs n v w) lacks
    where
      by : (b : Bool) → (replaced_or (lookup (nat_eq n) xs) v ≡ Err w → set_value (nat_eq n) xs v ≡ xs) → replaced_or (cond b (Some x.1) (lookup (nat_eq n) xs)) v ≡ Err w → cond b ((x.0, v) ∷ xs) (x ∷ set_value (nat_eq n) xs v) ≡ x ∷ xs
      by true rest lacks = absurd (false≢true (ap is_err lacks))
      by false rest lacks = ap (λ zs. x ∷ zs) (rest lacks)

pub ruleset spaces = (lookup-behind)
