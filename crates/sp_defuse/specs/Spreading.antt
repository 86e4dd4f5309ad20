-- A location comes to the sets of functions, from each to its callers.
use Rattle.std.specs.Prelude.{◌≡◌, ◌≢◌, ◌||◌, ◌++◌, ℕ, Bool, List, map, length}
use Rattle.sp_base_sets.specs.Sets.{has}
use Rattle.sp_base_sets.specs.Reached.{row}
use Rattle.sp_base_sets.specs.Marks.{IsMarked}
use Rattle.sp_defuse.specs.declared.spreading.Spread.{Spread}

-- which sets have a location
abbrev pub marks_of : ℕ → List (List ℕ) → List Bool
marks_of l sets = map (has l) sets

-- the functions whose set has the location stand in the order, each once
pub record IsListed (count l : ℕ) (s : Spread) : Type 0 where
  pub marked : IsMarked (marks_of l s.sets.items) s.order.items
  pub long : length s.sets.items ≡ count

-- no set changes but by this location
pub record Keeps (l : ℕ) (old new : List (List ℕ)) : Type 0 where
  pub long : length new ≡ length old
  pub others : (f k : ℕ) → k ≢ l → has k (row new f) ≡ has k (row old f)

-- these functions come into the order, behind those that are there
pub record Comes (l : ℕ) (functions : List ℕ) (old new : Spread) : Type 0 where
  pub kept : Keeps l old.sets.items new.sets.items
  pub rest : List ℕ
  pub order : new.order.items ≡ old.order.items ++ rest
  pub exact : (f : ℕ) → has f new.order.items ≡ (has f old.order.items || has f functions)
