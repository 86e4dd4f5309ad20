-- A walk along lists, while it goes on.
use Rattle.std.specs.Prelude.{◌≡◌, ◌||◌, ◌++◌, ℕ, List, length}
use Rattle.sp_base_sets.specs.Sets.{has}
use Rattle.sp_base_sets.specs.Marks.{IsMarked}
use Rattle.sp_base_sets.specs.declared.reach.Walk.{Walk}

-- each number that is reached stands in the order, once
abbrev pub IsListed : ℕ → Walk → Type 0
IsListed count w = IsMarked w.is_reached.items w.order.items × (length w.is_reached.items ≡ count)

-- these numbers come into the order, behind those that are there
pub record Comes (numbers : List ℕ) (old new : Walk) : Type 0 where
  pub rest : List ℕ
  pub order : new.order.items ≡ old.order.items ++ rest
  pub exact : (n : ℕ) → has n new.order.items ≡ (has n old.order.items || has n numbers)
