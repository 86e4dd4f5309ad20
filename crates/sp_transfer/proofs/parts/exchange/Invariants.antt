use Rattle.std.proofs.Common.{◌≡◌, ℕ, cond, take}
use Rattle.sp_lattice.specs.System.{has}
use Rattle.sp_effect_rows.specs.Updates.{store_of}
use Rattle.sp_transfer.proofs.parts.exchange.Given as goal

-- at the first places both rows have what the other had
abbrev pub invariant-loop-place : goal.invariant-loop-place
invariant-loop-place l =
    ((k : ℕ) → store_of l.these l.slots k ≡ cond (has k (take l.place l.these)) (store_of l.places l.fn.row k) (store_of l.these l.fn.slots k))
    × ((k : ℕ) → store_of l.places l.row k ≡ cond (has k (take l.place l.these)) (store_of l.these l.fn.slots k) (store_of l.places l.fn.row k))
