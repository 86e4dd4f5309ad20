-- The nodes that use each location.
use Rattle.std.specs.Prelude.{◌≡◌, ◌<◌, ◌&&◌, ℕ, nat_lt, List, length, AllPairs}
use Rattle.sp_lattice.specs.Flat.{row_at}
use Rattle.sp_lattice.specs.System.{Meaning, has}

-- exactly the nodes that use a location, ascending
pub record AreUsers {V : Type 0} (m : Meaning V) (location : ℕ) (users : List ℕ) : Type 0 where
  pub ascending : AllPairs (λ x y. x < y) users
  pub exact : (n : ℕ) → has n users ≡ (nat_lt n m.nodes && has location (m.uses n))

-- a row for each location, with the nodes that use it
pub record HasUsers {V : Type 0} (m : Meaning V) (rows : List (List ℕ)) : Type 0 where
  pub long : length rows ≡ m.locations
  pub each : (l : ℕ) → l < m.locations → AreUsers m l (row_at rows l)
