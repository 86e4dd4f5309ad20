-- Sets of images, one number more at a time.
use Rattle.std.proofs.Common.{◌≡◌, ◌⊎◌, inl, inr, ℕ, suc, ◌∷◌, ◌+◌, ◌<◌, Bool, true, false, ◌||◌, eqb, List, [], length, get_or, take, refl, sym, ◌∙◌, subst, arith, eqb-true}
use Rattle.std.proofs.lemmas.Bool.{false≢true}
use Rattle.std.proofs.lemmas.List.Folds.{list_any_more}
use Rattle.sp_base_sets.specs.Sets.{has}
use Rattle.sp_base_sets.specs.Sets.{Images, Gains}
use Rattle.sp_base_sets.proofs.Members.{eqb-refl}

pub or-cases : (a b : Bool) → (a || b) ≡ true → (a ≡ true) ⊎ (b ≡ true)
or-cases true b h = inl refl
or-cases false b h = inr h

pub or-left : (a b : Bool) → a ≡ true → (a || b) ≡ true
or-left true b h = refl
or-left false b h = absurd (false≢true h)

pub or-right : (a b : Bool) → b ≡ true → (a || b) ≡ true
or-right true b h = refl
or-right false b h = h

pub images_none : (F : ℕ → ℕ → Type 0) → Images F [] []
images_none F = record { origin = λ r h. absurd (false≢true h); all = λ x r h f. absurd (false≢true h) }

pub images_more : (F : ℕ → ℕ → Type 0) (xs : List ℕ) (i : ℕ) (old new : List ℕ) → i < length xs → Images F (take i xs) old → Gains (F (get_or xs i 0)) old new → Images F (take (i + 1) xs) new
images_more F xs i old new low so_far gains = record {
  origin = λ r h. from r (gains.origin r h);
  all = λ x r h f. at x r f (or-cases (has x (take i xs)) (eqb x (get_or xs i 0)) (sym (more x) ∙ h));
}
  where
    more : (x : ℕ) → has x (take (i + 1) xs) ≡ (has x (take i xs) || eqb x (get_or xs i 0))
    more x = list_any_more (eqb x) xs i 0 low

    from : (r : ℕ) → (has r old ≡ true) ⊎ F (get_or xs i 0) r → (x : ℕ) × (has x (take (i + 1) xs) ≡ true) × F x r
    from r (inl h) = let old_one = so_far.origin r h in (old_one.0, more old_one.0 ∙ or-left (has old_one.0 (take i xs)) (eqb old_one.0 (get_or xs i 0)) old_one.1, old_one.2)
    from r (inr f) = (get_or xs i 0, more (get_or xs i 0) ∙ or-right (has (get_or xs i 0) (take i xs)) (eqb (get_or xs i 0) (get_or xs i 0)) (eqb-refl (get_or xs i 0)), f)

    at : (x r : ℕ) → F x r → (has x (take i xs) ≡ true) ⊎ (eqb x (get_or xs i 0) ≡ true) → has r new ≡ true
    at x r f (inl h) = gains.kept r (so_far.all x r h f)
    at x r f (inr e) = gains.all r (subst (λ y. F y r) (eqb-true x (get_or xs i 0) e) f)

-- where a member stands
pub place_of : (xs : List ℕ) (x : ℕ) → has x xs ≡ true → (i : ℕ) × (i < length xs) × (get_or xs i 0 ≡ x)
place_of [] x h = absurd (false≢true h)
place_of (y ∷ ys) x h = by (or-cases (eqb x y) (has x ys) h) (λ g. place_of ys x g)
  where
    by : (eqb x y ≡ true) ⊎ (has x ys ≡ true) → (has x ys ≡ true → (i : ℕ) × (i < length ys) × (get_or ys i 0 ≡ x)) → (i : ℕ) × (i < length (y ∷ ys)) × (get_or (y ∷ ys) i 0 ≡ x)
    by (inl e) rest = (0, omega arith, sym (eqb-true x y e))
    by (inr g) rest = let one = rest g in (suc one.0, omega (arith, one.1), one.2)
