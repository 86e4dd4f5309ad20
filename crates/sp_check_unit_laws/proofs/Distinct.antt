-- Lists without an element twice.
use Rattle.std.proofs.Common.{◌≡◌, ◌⊎◌, inl, inr, ℕ, zero, suc, length, List, [], ◌∷◌, ◌++◌, Some, refl, ap, sym, ◌∙◌}
use Rattle.std.specs.Prelude.{slice_get}
use Rattle.sp_check_formed_laws.proofs.Lists.{none_some, some_is}

abbrev pub AreDistinct : List ℕ → Type 0
AreDistinct xs = (i j n : ℕ) → slice_get xs i ≡ Some n → slice_get xs j ≡ Some n → i ≡ j

-- an element of a list with one more is an old one or the last
pub pushed_either : (xs : List ℕ) (y i n : ℕ) → slice_get (xs ++ y ∷ []) i ≡ Some n
    → (slice_get xs i ≡ Some n) ⊎ ((i ≡ length xs) × (y ≡ n))
pushed_either [] y zero n e = inr (refl, some_is y n e)
pushed_either [] y (suc i) n e = absurd (none_some n e)
pushed_either (x ∷ xs) y zero n e = inl e
pushed_either (x ∷ xs) y (suc i) n e = by (pushed_either xs y i n e)
  where
    by : (slice_get xs i ≡ Some n) ⊎ ((i ≡ length xs) × (y ≡ n))
        → (slice_get xs i ≡ Some n) ⊎ ((suc i ≡ suc (length xs)) × (y ≡ n))
    by (inl h) = inl h
    by (inr h) = inr (ap suc h.0, h.1)

pub distinct_none : AreDistinct []
distinct_none i j n e g = absurd (none_some n e)

pub distinct_pushed : (xs : List ℕ) (y : ℕ) → AreDistinct xs
    → ((i n : ℕ) → slice_get xs i ≡ Some n → y ≡ n → ⊥) → AreDistinct (xs ++ y ∷ [])
distinct_pushed xs y h new i j n e g = by (pushed_either xs y i n e) (pushed_either xs y j n g)
  where
    by : (slice_get xs i ≡ Some n) ⊎ ((i ≡ length xs) × (y ≡ n))
        → (slice_get xs j ≡ Some n) ⊎ ((j ≡ length xs) × (y ≡ n)) → i ≡ j
    by (inl a) (inl b) = h i j n a b
    by (inl a) (inr b) = absurd (new i n a b.1)
    by (inr a) (inl b) = absurd (new j n b a.1)
    by (inr a) (inr b) = a.0 ∙ sym b.0
