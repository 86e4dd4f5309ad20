-- Stretches of nodes, which a walk passes in one step.
use Rattle.std.specs.Prelude.{◌≡◌, ◌≢◌, ◌<◌, ◌⊎◌, ℕ, true, false, List, length, slice_index_or}
use Rattle.sp_lattice.specs.System.{Meaning, AllBelow, has}
use Rattle.sp_lattice.specs.Flat.{row_at}
use Rattle.sp_deps.specs.declared.stretches.Stretches.{Stretches}

-- edges lead into a node, from nodes of lesser numbers with this head alone, and pass every location
pub record Follows {V : Type 0} (m : Meaning V) (heads : List ℕ) (n head : ℕ) : Type 0 where
  pub first : ℕ
  pub edge : has first (m.into n) ≡ true
  pub each : (p : ℕ) → has p (m.into n) ≡ true → (p < n) × (slice_index_or heads p 0 ≡ head)
  pub passes : (p l : ℕ) → has p (m.into n) ≡ true → l < m.locations → m.passes p n l ≡ true

-- the head of a node: the node itself, or that of all nodes before it
abbrev pub IsHead : {V : Type 0} → Meaning V → List ℕ → ℕ → ℕ → Type 0
IsHead m heads n head = (head ≡ n) ⊎ Follows m heads n head

-- the heads of a front of the nodes
pub record AreHeads {V : Type 0} (m : Meaning V) (heads : List ℕ) : Type 0 where
  pub low : AllBelow m.nodes heads
  pub each : (n : ℕ) → n < length heads → IsHead m heads n (slice_index_or heads n 0)

-- for each location the heads of the stretches that define it, and maybe more
pub record HasTouching {V : Type 0} (m : Meaning V) (heads : List ℕ) (rows : List (List ℕ)) : Type 0 where
  pub long : length rows ≡ m.locations
  pub each : (l n : ℕ) → n < m.nodes → has l (m.defs n) ≡ true → has (slice_index_or heads n 0) (row_at rows l) ≡ true

-- the stretches of a system, where none that a location passes defines it
pub record AreReady {V : Type 0} (m : Meaning V) (location : ℕ) (s : Stretches) : Type 0 where
  pub long : length s.heads.items ≡ m.nodes
  pub heads : AreHeads m s.heads.items
  pub free : (n : ℕ) → n < m.nodes → slice_index_or s.is_passed.items (slice_index_or s.heads.items n 0) false ≡ true → has location (m.defs n) ≡ false

-- a walk may go from a node to another at once: that one is its head, and its stretch doesn't define the location
pub record IsSkip {V : Type 0} (m : Meaning V) (location : ℕ) (heads : List ℕ) (node head : ℕ) : Type 0 where
  pub is : slice_index_or heads node 0 ≡ head
  pub apart : head ≢ node
  pub free : (n : ℕ) → n < m.nodes → slice_index_or heads n 0 ≡ head → has location (m.defs n) ≡ false
