-- Tables that have a set of numbers for each row, and the least that is closed under rules.
use Rattle.std.specs.Prelude.{◌≡◌, ◌<◌, ℕ, true, List}
use Rattle.sp_base_sets.specs.Sets.{has}
use Rattle.sp_base_sets.specs.Reached.{row}

-- the numbers of each row
abbrev pub Table : Type 0
Table = ℕ → List ℕ

-- every number of one table is in the other's same row
abbrev pub Within : Table → Table → Type 0
Within t u = (c r : ℕ) → has r (t c) ≡ true → has r (u c) ≡ true

-- by a table, the rule of a number can put a number into a row
abbrev pub Rules : Type 1
Rules = Table → ℕ → ℕ → ℕ → Type 0

abbrev pub IsClosed : Rules → Table → Type 0
IsClosed rules t = (n c r : ℕ) → rules t n c r → has r (t c) ≡ true

pub record IsLeastClosed (rules : Rules) (t : Table) : Type 0 where
  pub closed : IsClosed rules t
  pub least : (other : Table) → IsClosed rules other → Within t other

-- What is asked of rules: there are so many; in so many rows they put only numbers below that count,
-- where the table has just such numbers; and by a greater table they put no less.
pub record AreRules (rules : Rules) (rows count : ℕ) : Type 0 where
  pub few : (t : Table) (n c r : ℕ) → rules t n c r → n < count
  pub low : (t : Table) (n c r : ℕ) → ((d q : ℕ) → has q (t d) ≡ true → q < rows) → rules t n c r → (c < rows) × (r < rows)
  pub more : (t u : Table) (n c r : ℕ) → Within t u → rules t n c r → rules u n c r

-- a table that has no more in these rows than the lists
abbrev pub Limited : List (List ℕ) → List ℕ → Table → Type 0
Limited lists rows u = (c r : ℕ) → has c rows ≡ true → has r (u c) ≡ true → has r (row lists c) ≡ true
