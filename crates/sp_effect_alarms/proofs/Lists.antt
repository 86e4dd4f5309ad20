-- Elements of lists: tests that all pass, and arguments by their number.
use Rattle.std.proofs.Common.{◌≡◌, ℕ, ◌<◌, ◌≤◌, zero, suc, Bool, true, List, [], ◌∷◌, map, length, get_or, refl, arith}
use Rattle.std.specs.List.{list_all}
use Rattle.sp_value.specs.Known.{Known, none}
use Rattle.sp_value.specs.Tests.{first, second}
use Rattle.sp_effect_alarms.specs.Library.{argument}

-- of tests that all pass, the one at i passes
pub all-at : {X Y : Type 0} (test : Y → Bool) (h : X → Y) (xs : List X) (i : ℕ) (d : X) → i < length xs → list_all test (map h xs) ≡ true → test (h (get_or xs i d)) ≡ true
all-at test h [] i d low g = absurd (omega (arith, low))
all-at test h (x ∷ xs) zero d low g = first (test (h x)) (list_all test (map h xs)) g
all-at test h (x ∷ xs) (suc i) d low g = all-at test h xs i d (omega (arith, low)) (second (test (h x)) (list_all test (map h xs)) g)

-- the argument at k, and one that isn't there
pub argument-at : {X Y : Type 0} (f : Y → Known) (h : X → Y) (xs : List X) (k : ℕ) (d : X) → k < length xs → argument (map f (map h xs)) k ≡ f (h (get_or xs k d))
argument-at f h [] k d low = absurd (omega (arith, low))
argument-at f h (x ∷ xs) zero d low = refl
argument-at f h (x ∷ xs) (suc k) d low = argument-at f h xs k d (omega (arith, low))

pub argument-none : {X Y : Type 0} (f : Y → Known) (h : X → Y) (xs : List X) (k : ℕ) → length xs ≤ k → argument (map f (map h xs)) k ≡ none
argument-none f h [] k high = refl
argument-none f h (x ∷ xs) zero high = absurd (omega (arith, high))
argument-none f h (x ∷ xs) (suc k) high = argument-none f h xs k (omega (arith, high))
