-- A table that grows, and the rules that wait to be served.
use Rattle.std.specs.Prelude.{◌≡◌, ◌≢◌, ◌⊎◌, ◌<◌, ◌≤◌, ◌&&◌, ℕ, Bool, true, List, length, sum_by}
use Rattle.std.specs.List.{list_any}
use Rattle.sp_base_sets.specs.Sets.{has, Ascends}
use Rattle.sp_base_sets.specs.Reached.{row}
use Rattle.sp_points_expr.specs.Tables.{Table, Rules, IsClosed, Within}
use Rattle.sp_points_expr.specs.declared.growing.Growing.{Growing}
use Rattle.sp_points_expr.specs.declared.growing.Put.{Put}

abbrev pub table : Growing → Table
table s = row s.rows.items

-- the rule reads the row
abbrev pub reads : Growing → ℕ → ℕ → Bool
reads s n c = has n (row s.readers.items c)

abbrev pub waits : Growing → ℕ → Bool
waits s n = has n s.queue.numbers

-- how many pairs of a row and a number the table has
abbrev pub size : Growing → ℕ
size s = sum_by length s.rows.items

abbrev pub in_put : Put → ℕ → ℕ → Bool
in_put put c r = has c put.rows && has r put.numbers

abbrev pub in_puts : List Put → ℕ → ℕ → Bool
in_puts puts c r = list_any (λ put. in_put put c r) puts

-- exactly these pairs came to the table, and where a row grew, the rules that read it wait
pub record Grows (F : ℕ → ℕ → Type 0) (old new : Growing) : Type 0 where
  pub more : Within (table old) (table new)
  pub origin : (c r : ℕ) → has r (table new c) ≡ true → (has r (table old c) ≡ true) ⊎ F c r
  pub all : (c r : ℕ) → F c r → has r (table new c) ≡ true
  pub woken : (c r n : ℕ) → has r (table new c) ≡ true → reads old n c ≡ true
      → (has r (table old c) ≡ true) ⊎ (waits new n ≡ true)
  pub kept : (n : ℕ) → waits old n ≡ true → waits new n ≡ true
  pub readers : new.readers.items ≡ old.readers.items
  pub rows : length new.rows.items ≡ length old.rows.items
  pub count : new.queue.count ≡ old.queue.count
  pub few : length old.queue.numbers ≤ old.queue.count → length new.queue.numbers ≤ new.queue.count
  pub ascending : ((c : ℕ) → Ascends (row old.rows.items c)) → (c : ℕ) → Ascends (row new.rows.items c)
  pub rises : (size old < size new) ⊎ ((size new ≡ size old) × (new.queue ≡ old.queue))

-- the rule reads these rows too, and nothing else changes
pub record Registers (rows : List ℕ) (rule : ℕ) (old new : Growing) : Type 0 where
  pub long : length new.readers.items ≡ length old.readers.items
  pub kept : (n c : ℕ) → reads old n c ≡ true → reads new n c ≡ true
  pub origin : (n c : ℕ) → reads new n c ≡ true → (reads old n c ≡ true) ⊎ (n ≡ rule)
  pub all : (c : ℕ) → c < length old.readers.items → has c rows ≡ true → reads new rule c ≡ true

-- a table of so many rows
abbrev pub InRange : ℕ → Table → Type 0
InRange count u = (c r : ℕ) → has r (u c) ≡ true → c < count

-- by any table that has no more in the rows that the rule reads, it puts no more than is there
abbrev pub Settled : Rules → Growing → ℕ → Type 0
Settled rules s n = (u : Table) → InRange (length s.rows.items) u
    → ((c r : ℕ) → reads s n c ≡ true → has r (u c) ≡ true → has r (table s c) ≡ true)
    → (c r : ℕ) → rules u n c r → has r (table s c) ≡ true

-- What holds while rules wait: nothing in the table is too much, and each rule that doesn't wait is
-- settled, but for one that is being served.
pub record Working (rules : Rules) (height count served : ℕ) (s : Growing) : Type 0 where
  pub sound : (other : Table) → IsClosed rules other → Within (table s) other
  pub settled : (n : ℕ) → n < count → n ≢ served → (waits s n ≡ true) ⊎ Settled rules s n
  pub rows : length s.rows.items ≡ height
  pub readers : length s.readers.items ≡ height
  pub counted : s.queue.count ≡ count
  pub few : length s.queue.numbers ≤ s.queue.count
  pub low : (c r : ℕ) → has r (table s c) ≡ true → r < height
  pub known : (n c : ℕ) → reads s n c ≡ true → n < count
  pub ascending : (c : ℕ) → Ascends (row s.rows.items c)
