-- Lists of what belongs to numbers, one by one.
use Rattle.std.specs.Prelude.{ℕ, List, [], ◌∷◌}

abbrev pub Each : {A : Type 0} → (ℕ → A → Type 0) → List ℕ → List A → Type 0
Each F [] [] = Unit {0}
Each F [] (x ∷ xs) = ⊥
Each F (n ∷ ns) [] = ⊥
Each F (n ∷ ns) (x ∷ xs) = F n x × Each F ns xs
