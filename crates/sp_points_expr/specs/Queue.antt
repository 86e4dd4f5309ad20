-- Numbers that wait.
use Rattle.std.specs.Prelude.{◌≡◌, ℕ, ◌+◌, Bool, false, nat_eq, cond, List, [], ◌∷◌, slice_index_or}

-- numbers below a count
pub record Waiting : Type 0 where
  pub count : ℕ
  pub numbers : List ℕ

-- how often a number stands in a list
abbrev pub occurs : ℕ → List ℕ → ℕ
occurs n [] = 0
occurs n (x ∷ xs) = cond (nat_eq n x) 1 0 + occurs n xs

-- each number that is marked stands in the list once, and no other stands there
abbrev pub AreMarked : List Bool → List ℕ → Type 0
AreMarked marks xs = (n : ℕ) → occurs n xs ≡ cond (slice_index_or marks n false) 1 0
