-- Nodes into which everything passes.
use Rattle.std.specs.Prelude.{◌≡◌, ◌<◌, ℕ, Bool, true, false, List, slice_index_or}
use Rattle.sp_lattice.specs.System.{Meaning, has}

-- each edge into a node that has a mark passes every location
abbrev pub AreOpen : {V : Type 0} → Meaning V → List Bool → Type 0
AreOpen m marks = (n from l : ℕ) → n < m.nodes → l < m.locations → slice_index_or marks n false ≡ true → has from (m.into n) ≡ true → m.passes from n l ≡ true
