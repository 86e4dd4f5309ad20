-- What is past the lists leads nowhere.
use Rattle.std.proofs.Common.{◌≡◌, ◌⊎◌, ◌↔◌, inl, inr, ℕ, zero, suc, ◌<◌, ◌≤◌, Bool, true, false, List, [], ◌∷◌, length, get_or, refl, sym, ◌∙◌, subst, arith}
use Rattle.std.proofs.lemmas.Bool.{false≢true}
use Rattle.sp_base_sets.specs.Reached.{Reached, start, onward, Leads}

pub nothing_reached : (lists : List (List ℕ)) (n : ℕ) → Reached lists [] n → ⊥
nothing_reached lists n (start h) = false≢true h
nothing_reached lists n (onward {mid} r h) = nothing_reached lists mid r

pub past_last : {A : Type 0} (xs : List A) (n : ℕ) (d : A) → length xs ≤ n → get_or xs n d ≡ d
past_last [] n d h = refl
past_last (x ∷ xs) zero d h = absurd (omega arith)
past_last (x ∷ xs) (suc n) d h = past_last xs n d (omega arith)

side : (n m : ℕ) → (n < m) ⊎ (m ≤ n)
side n m = grind arith

pub all_marked : (lists : List (List ℕ)) (marks : List Bool) → length marks ≡ length lists → ((k : ℕ) → k < length lists → (get_or marks k false ≡ true) ↔ Leads lists k k) → (k : ℕ) → (get_or marks k false ≡ true) ↔ Leads lists k k
all_marked lists marks long exact k = by (side k (length lists))
  where
    by : (k < length lists) ⊎ (length lists ≤ k) → (get_or marks k false ≡ true) ↔ Leads lists k k
    by (inl low) = exact k low
    by (inr out) = (
      λ h. absurd (false≢true (sym (past_last marks k false (omega (arith, long, out))) ∙ h)),
      λ r. absurd (nothing_reached lists k (subst (λ xs. Reached lists xs k) (past_last lists k [] out) r)),
    )
