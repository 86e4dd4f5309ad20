-- What the engine keeps between its steps, and what a step does.
use Rattle.std.specs.Prelude.{◌≡◌, ◌≢◌, ◌⊎◌, ◌<◌, ◌≤◌, ◌+◌, ◌-◌, ℕ, Bool, true, false, not, cond, List, length, map, slice_index, slice_index_or, sum_by}
use Rattle.sp_lattice.specs.Lattice.{Order}
use Rattle.sp_lattice.specs.Flat.{row_at}
use Rattle.sp_lattice.specs.System.{Meaning, has}
use Rattle.sp_lattice.specs.Dense.{Table}
use Rattle.sp_sparse.specs.inner.Sparse.{SparsePartial, IsEvaluated, IsSent}

-- inputs and outputs on the way to the solution: each node that doesn't wait is evaluated, the values that are due have
-- been sent, and an input into which no dependency leads is the least value
pub record IsWorking {V : Type 0} (o : Order V) (m : Meaning V) (test : ℕ → ℕ → ℕ → Bool) (due : ℕ → ℕ → ℕ → Type 0) (ins outs : Table V) (waiting : List ℕ) : Type 0 where
  pub part : SparsePartial o m ins outs
  pub evaluated : (n : ℕ) → n < m.nodes → has n waiting ≡ false → IsEvaluated o m ins outs n
  pub sent : (b l c : ℕ) → due b l c → IsSent o ins outs b l c
  pub untouched : (n l : ℕ) → n < m.nodes → ((b : ℕ) → b < m.nodes → test b l n ≡ false) → ins n l ≡ o.bottom

-- every dependency is due
abbrev pub Every : (ℕ → ℕ → ℕ → Bool) → ℕ → ℕ → ℕ → Type 0
Every test b l c = test b l c ≡ true

-- every one is, but for those of some locations that leave one node
abbrev pub EveryBut : (ℕ → ℕ → ℕ → Bool) → ℕ → List ℕ → ℕ → ℕ → ℕ → Type 0
EveryBut test n pending b l c = (test b l c ≡ true) × ((b ≢ n) ⊎ (has l pending ≡ false))

-- a row is brought up to date: a value that isn't above the one made at its place becomes that one, the others stay,
-- and the places of those that grew are told
pub record Updates {V : Type 0} (o : Order V) (made before after : List V) (grown : List ℕ) : Type 0 where
  pub long : length after ≡ length before
  pub low : (p : ℕ) → has p grown ≡ true → p < length before
  pub grew : (p : ℕ) → p < length before → has p grown ≡ true → slice_index_or after p o.bottom ≡ slice_index_or made p o.bottom
  pub kept : (p : ℕ) → p < length before → has p grown ≡ false → slice_index_or after p o.bottom ≡ slice_index_or before p o.bottom
  pub settled : (p : ℕ) → p < length before → has p grown ≡ false → o.le (slice_index_or made p o.bottom) (slice_index_or before p o.bottom) ≡ true

-- that of one row, where the others stay
pub record UpdatesRow {V : Type 0} (o : Order V) (made : List V) (before after : List (List V)) (n : ℕ) (grown : List ℕ) : Type 0 where
  pub long : length after ≡ length before
  pub others : (k : ℕ) → k ≢ n → row_at after k ≡ row_at before k
  pub row : Updates o made (row_at before n) (row_at after n) grown

-- a node is evaluated: an output becomes the effect of the node's inputs where that isn't below it, and the locations
-- at which it does are told; the others stay
pub record Evaluates {V : Type 0} (o : Order V) (m : Meaning V) (ins before after : Table V) (n : ℕ) (grown : List ℕ) : Type 0 where
  pub made : (l : ℕ) → has l grown ≡ true → after n l ≡ m.effect n (ins n) l
  pub kept : (l : ℕ) → has l grown ≡ false → after n l ≡ before n l
  pub settled : (l : ℕ) → has l (m.defs n) ≡ true → has l grown ≡ false → o.le (m.effect n (ins n) l) (before n l) ≡ true
  pub others : (k l : ℕ) → k ≢ n → after k l ≡ before k l

-- the locations that a node defines at some places
abbrev pub locations_at : {V : Type 0} → Meaning V → ℕ → List ℕ → List ℕ
locations_at m n places = map (λ p. slice_index (m.defs n) p) places

-- a value is sent: one input is raised to the least upper bound with it, the others stay
pub record Raises {V : Type 0} (o : Order V) (before after : Table V) (n l : ℕ) (v : V) (grew : Bool) : Type 0 where
  pub raised : after n l ≡ o.join (before n l) v
  pub others : (k j : ℕ) → (k ≢ n) ⊎ (j ≢ l) → after k j ≡ before k j
  pub grown : grew ≡ not (o.le v (before n l))

-- how far the ranks of a node's inputs have risen
abbrev pub risen : {V : Type 0} → Order V → Meaning V → Table V → ℕ → ℕ
risen o m ins n = sum_by (λ l. m.rank (ins n l) - m.rank o.bottom) (m.uses n)

-- the evaluations of each node, with the one for which it waits, are paid: one to begin with, and one wherever an
-- input of it rose
abbrev pub IsPaid : {V : Type 0} → Order V → Meaning V → Table V → List ℕ → (ℕ → ℕ) → Type 0
IsPaid o m ins waiting counts = (n : ℕ) → n < m.nodes → counts n + cond (has n waiting) 1 0 ≤ 1 + risen o m ins n
