-- Sparse tables: values at the uses and the definitions of nodes alone, sent along dependencies.
use Rattle.std.specs.Prelude.{◌≡◌, ◌<◌, ℕ, Bool, true}
use Rattle.sp_lattice.specs.Lattice.{Order}
use Rattle.sp_lattice.specs.System.{Meaning, Held, has}
use Rattle.sp_lattice.specs.Dense.{Table, input, Under, Above, BelowTable, IsLeast}

-- what holds of inputs and outputs on the way to the solution: they are held, under the ceiling, and below those of
-- every table under the ceiling whose rows lie above the effects of their inputs
pub record SparsePartial {V : Type 0} (o : Order V) (m : Meaning V) (ins outs : Table V) : Type 0 where
  pub in_held : (n : ℕ) → n < m.nodes → Held m (ins n)
  pub in_under : Under o m ins
  pub in_below : (other : Table V) → Under o m other → Above o m other → BelowTable o m ins (input o m other)
  pub out_held : (n : ℕ) → n < m.nodes → Held m (outs n)
  pub out_under : Under o m outs
  pub out_below : (other : Table V) → Under o m other → Above o m other → BelowTable o m outs other

-- the outputs at a node's definitions lie above the effect of its inputs
abbrev pub IsEvaluated : {V : Type 0} → Order V → Meaning V → Table V → Table V → ℕ → Type 0
IsEvaluated o m ins outs n = (l : ℕ) → has l (m.defs n) ≡ true → o.le (m.effect n (ins n) l) (outs n l) ≡ true

-- the output of `from` at l has reached the input of `to`
abbrev pub IsSent : {V : Type 0} → Order V → Table V → Table V → ℕ → ℕ → ℕ → Type 0
IsSent o ins outs from l to = o.le (outs from l) (ins to l) ≡ true

-- every node is evaluated, and every value is sent along each dependency
pub record IsStanding {V : Type 0} (o : Order V) (m : Meaning V) (test : ℕ → ℕ → ℕ → Bool) (ins outs : Table V) : Type 0 where
  pub part : SparsePartial o m ins outs
  pub evaluated : (n : ℕ) → n < m.nodes → IsEvaluated o m ins outs n
  pub sent : (b l c : ℕ) → test b l c ≡ true → IsSent o ins outs b l c

-- the dense least solution, with the input of each node at its uses and its output at its definitions
pub record EqualsDense {V : Type 0} (o : Order V) (m : Meaning V) (ins outs : Table V) : Type 0 where
  pub dense : Table V
  pub least : IsLeast o m dense
  pub inputs : (n l : ℕ) → n < m.nodes → l < m.locations → has l (m.uses n) ≡ true → ins n l ≡ input o m dense n l
  pub outputs : (n l : ℕ) → n < m.nodes → l < m.locations → has l (m.defs n) ≡ true → outs n l ≡ dense n l
