-- Kept counts, which stand still at 2^64 - 1, and calls that are told to fail.
use Rattle.std.specs.Prelude.{◌≡◌, ℕ, ◌+◌, ◌-◌, ◌^◌, ◌<◌, ◌≤◌, min, Bool, ◌||◌, ◌==◌, List, Option, Some, None, ⊤}
use Rattle.std.specs.List.{list_any}

-- a kept count after n more
abbrev pub raised : ℕ → ℕ → ℕ
raised count n = min (count + n) (2 ^ 64 - 1)

-- a kept count rose, or stands at 2^64 - 1
pub record Rose (old new : ℕ) : Type 0 where
  pub never_falls : old ≤ new
  pub rises : old < 2 ^ 64 - 1 → old < new

-- a call's number is among those of the calls that fail
abbrev pub is_listed : List ℕ → ℕ → Bool
is_listed fail number = list_any (λ listed. listed == number) fail

-- where the failing calls are told, the call of this number failed exactly where it is listed or
-- there was the other cause
abbrev pub FailsExactly : Option (List ℕ) → ℕ → Bool → Bool → Type 0
FailsExactly None number other_cause failed = ⊤
FailsExactly (Some fail) number other_cause failed = failed ≡ (is_listed fail number || other_cause)
