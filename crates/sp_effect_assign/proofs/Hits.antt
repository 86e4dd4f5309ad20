-- What targets hit is among a node's definitions.
use Rattle.std.proofs.Common.{◌≡◌, ℕ, zero, suc, ◌<◌, Bool, true, false, ◌||◌, nat_eq, List, [], ◌∷◌, length, get_or, refl, ap, ◌∙◌, arith, All}
use Rattle.sp_lattice.specs.System.{has}
use Rattle.sp_value.specs.declared.targets.Target.{Target}
use Rattle.sp_value.specs.FormedLaws.{Within}
use Rattle.sp_effect_rows.specs.Storing.{Destination, may_hit}
use Rattle.sp_effect_rows.proofs.StoringLaws.{may_hit-from}
use Rattle.sp_effect_rows.proofs.Numbers.{same_number}

-- a target of the regions hits where it may
pub hits-there : (d : Destination) (places : List ℕ) (xs : List Target) → ((l : ℕ) → has l places ≡ may_hit d l) → Within (λ r. has r d.regions ≡ true) xs
    → All (λ x. (l : ℕ) → d.hits x.region l ≡ true → has l places ≡ true) xs
hits-there d places [] are w k e low = absurd (omega arith)
hits-there d places (x ∷ xs) are w zero e low = λ l h. are l ∙ may_hit-from d l d.regions x.region w.0 h
hits-there d places (x ∷ xs) are w (suc k) e low = hits-there d places xs are w.1 k e (omega arith)

pub all-there : (places : List ℕ) → All (λ l. has l places ≡ true) places
all-there places k d low = at places k d low
  where
    later : (b : Bool) (x : ℕ) (xs : List ℕ) → has x xs ≡ true → (b || has x xs) ≡ true
    later true x xs h = refl
    later false x xs h = h

    at : (xs : List ℕ) (i e : ℕ) → i < length xs → has (get_or xs i e) xs ≡ true
    at [] i e h = absurd (omega arith)
    at (x ∷ xs) zero e h = ap (λ b. b || has x xs) (same_number x)
    at (x ∷ xs) (suc i) e h = later (nat_eq (get_or xs i e) x) (get_or xs i e) xs (at xs i e (omega arith))
