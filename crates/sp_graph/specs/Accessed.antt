-- Which locations functions access, as it is kept: by a location for those that the same functions
-- touch, and the set of such locations for each function.
use Rattle.std.specs.Prelude.{ℕ, Bool, false, List, Option, Some, None, slice_get}
use Rattle.sp_base_sets.specs.Sets.{has}
use Rattle.sp_base_sets.specs.Reached.{row}

-- whether the set has what stands for a location; nothing stands for one past the last
abbrev pub stood_for : List ℕ → Option ℕ → Bool
stood_for set None = false
stood_for set (Some n) = has n set

pub record AccessSets : Type 0 where
  pub stand_ins : List ℕ
  pub sets : List (List ℕ)

-- the function accesses the location
abbrev pub accesses : AccessSets → ℕ → ℕ → Bool
accesses a f l = stood_for (row a.sets f) (slice_get a.stand_ins l)
