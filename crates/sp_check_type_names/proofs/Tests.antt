-- Lists of words.
use Rattle.std.proofs.Common.{◌≡◌, Bool, true, false, ◌||◌, refl}

-- what holds of the first of two tests holds of either
pub first_holds : (a b : Bool) → a ≡ true → (a || b) ≡ true
first_holds true b h = refl
first_holds false b h = cc

pub ruleset found = (first_holds)
