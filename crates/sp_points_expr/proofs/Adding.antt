-- One row, or one put, more.
use Rattle.std.proofs.Common.{◌≡◌, ◌⊎◌, inl, inr, ◌∷◌, ◌++◌, ℕ, ◌+◌, ◌<◌, Bool, true, false, ◌||◌, ◌&&◌, eqb, List, [], length, get_or, take, refl, sym, ap, ◌∙◌, eqb-true}
use Rattle.std.proofs.lemmas.Bool.{false≢true}
use Rattle.std.proofs.lemmas.List.Folds.{list_any_more, list_any-append}
use Rattle.sp_base_sets.specs.Sets.{has}
use Rattle.sp_points_expr.specs.Growing.{in_put, in_puts}
use Rattle.sp_points_expr.specs.declared.growing.Put.{Put}
use Rattle.sp_base_sets.proofs.Members.{eqb-refl}
use Rattle.sp_base_sets.proofs.Images.{or-cases, or-left, or-right}

pub parts : (a b : Bool) → (a && b) ≡ true → (a ≡ true) × (b ≡ true)
parts true b h = (refl, h)
parts false b h = absurd (false≢true h)

pub both : (a b : Bool) → a ≡ true → b ≡ true → (a && b) ≡ true
both true b h k = k
both false b h k = absurd (false≢true h)

more : (cells : List ℕ) (i k : ℕ) → i < length cells → has k (take (i + 1) cells) ≡ (has k (take i cells) || eqb k (get_or cells i 0))
more cells i k low = list_any_more (eqb k) cells i 0 low

pub row_split : (cells regions : List ℕ) (i : ℕ) → i < length cells → (k r : ℕ) → (has k (take (i + 1) cells) && has r regions) ≡ true → ((has k (take i cells) && has r regions) ≡ true) ⊎ ((k ≡ get_or cells i 0) × (has r regions ≡ true))
row_split cells regions i low k r h = by (or-cases (has k (take i cells)) (eqb k (get_or cells i 0)) (sym (more cells i k low) ∙ p.0))
  where
    p : (has k (take (i + 1) cells) ≡ true) × (has r regions ≡ true)
    p = parts (has k (take (i + 1) cells)) (has r regions) h

    by : (has k (take i cells) ≡ true) ⊎ (eqb k (get_or cells i 0) ≡ true) → ((has k (take i cells) && has r regions) ≡ true) ⊎ ((k ≡ get_or cells i 0) × (has r regions ≡ true))
    by (inl g) = inl (both (has k (take i cells)) (has r regions) g p.1)
    by (inr e) = inr (eqb-true k (get_or cells i 0) e, p.1)

pub row_left : (cells regions : List ℕ) (i : ℕ) → i < length cells → (k r : ℕ) → (has k (take i cells) && has r regions) ≡ true → (has k (take (i + 1) cells) && has r regions) ≡ true
row_left cells regions i low k r h =
    let p = parts (has k (take i cells)) (has r regions) h in
    both (has k (take (i + 1) cells)) (has r regions) (more cells i k low ∙ or-left (has k (take i cells)) (eqb k (get_or cells i 0)) p.0) p.1

pub row_right : (cells regions : List ℕ) (i : ℕ) → i < length cells → (k r : ℕ) → (k ≡ get_or cells i 0) × (has r regions ≡ true) → (has k (take (i + 1) cells) && has r regions) ≡ true
row_right cells regions i low k r h =
    both (has k (take (i + 1) cells)) (has r regions) (more cells i k low ∙ or-right (has k (take i cells)) (eqb k (get_or cells i 0)) (ap (λ j. eqb j (get_or cells i 0)) h.0 ∙ eqb-refl (get_or cells i 0))) h.1

pub put_more : (puts : List Put) (i : ℕ) (put : Put) → i < length puts → (k r : ℕ) → in_puts (take (i + 1) puts) k r ≡ (in_puts (take i puts) k r || in_put (get_or puts i put) k r)
put_more puts i put low k r = list_any_more (λ q. in_put q k r) puts i put low

pub puts_pushed : (puts : List Put) (put : Put) (k r : ℕ) → in_puts (puts ++ put ∷ []) k r ≡ (in_puts puts k r || in_put put k r)
puts_pushed puts put k r = list_any-append (λ q. in_put q k r) puts (put ∷ []) ∙ ap (λ b. in_puts puts k r || b) (or-false_right (in_put put k r))
  where
    or-false_right : (b : Bool) → (b || false) ≡ b
    or-false_right true = refl
    or-false_right false = refl
