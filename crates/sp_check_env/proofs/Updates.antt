-- Tables with plain entries.
use Rattle.std.proofs.Common.{◌≡◌, ℕ, zero, suc, ◌<◌, ◌≤◌, List, [], ◌∷◌, length, map, set, get_or, refl, ap, ◌∙◌, arith}
use Rattle.std.proofs.lemmas.List.{map-set}
use Rattle.sp_check_env.specs.Env.{changed}

-- an entry that is there is changed to what is set
pub changed-set : {A B : Type 0} (f : A → B) (g : B → B) (xs : List A) (k : ℕ) (x y : A) → k < length xs → x ≡ get_or xs k x → f y ≡ g (f x) → map f (set xs k y) ≡ changed g (map f xs) k
changed-set f g [] k x y h e same = absurd (omega arith)
changed-set f g (z ∷ xs) zero x y h e same = ap (λ b. b ∷ map f xs) (same ∙ ap (λ a. g (f a)) e)
changed-set f g (z ∷ xs) (suc k) x y h e same = ap (λ ys. f z ∷ ys) (changed-set f g xs k x y (omega arith) e same)

-- one that isn't there changes nothing
pub changed-past : {A : Type 0} (g : A → A) (xs : List A) (k : ℕ) → length xs ≤ k → changed g xs k ≡ xs
changed-past g [] k h = refl
changed-past g (x ∷ xs) zero h = absurd (omega arith)
changed-past g (x ∷ xs) (suc k) h = ap (λ ys. x ∷ ys) (changed-past g xs k (omega arith))

pub ruleset updates = (map-set)
