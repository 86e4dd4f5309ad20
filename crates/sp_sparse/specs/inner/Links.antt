-- The links along which outputs are sent, grouped by definition.
use Rattle.std.specs.Prelude.{◌≡◌, ◌<◌, ◌+◌, ℕ, Bool, true, List, length, slice_index, slice_index_or}
use Rattle.sp_lattice.specs.Flat.{row_at}
use Rattle.sp_lattice.specs.System.{Meaning, has}
use Rattle.sp_lattice.specs.Bound.{sum_below}

-- a link from a definition of l by `from`: a node that depends on it, and the place of l among that node's uses
pub record IsLink {V : Type 0} (m : Meaning V) (test : ℕ → ℕ → ℕ → Bool) (from l : ℕ) (link : ℕ × ℕ) : Type 0 where
  pub depends : test from l link.0 ≡ true
  pub within : link.1 < length (m.uses link.0)
  pub there : slice_index (m.uses link.0) link.1 ≡ l

-- the links of one definition: one to each node that depends on it
pub record AreLinks {V : Type 0} (m : Meaning V) (test : ℕ → ℕ → ℕ → Bool) (from l : ℕ) (links : List (ℕ × ℕ)) : Type 0 where
  pub each : (k : ℕ) (d : ℕ × ℕ) → k < length links → IsLink m test from l (slice_index_or links k d)
  pub all : (to : ℕ) → test from l to ≡ true → (k : ℕ) × (k < length links) × ((d : ℕ × ℕ) → (slice_index_or links k d).0 ≡ to)

-- how many definitions the nodes before one have
abbrev pub definitions_before : {V : Type 0} → Meaning V → ℕ → ℕ
definitions_before m n = sum_below n (λ k. length (m.defs k))

-- a row of links for each definition, node by node
pub record HasLinks {V : Type 0} (m : Meaning V) (test : ℕ → ℕ → ℕ → Bool) (rows : List (List (ℕ × ℕ))) : Type 0 where
  pub long : length rows ≡ definitions_before m m.nodes
  pub each : (n p : ℕ) → n < m.nodes → p < length (m.defs n) → AreLinks m test n (slice_index (m.defs n) p) (row_at rows (definitions_before m n + p))

-- each pair has a location and a node that uses it
abbrev pub UsedAt : {V : Type 0} → Meaning V → List (ℕ × ℕ) → Type 0
UsedAt m pairs = (k : ℕ) (d : ℕ × ℕ) → k < length pairs → ((slice_index_or pairs k d).1 < m.nodes) × (has (slice_index_or pairs k d).0 (m.uses (slice_index_or pairs k d).1) ≡ true)
