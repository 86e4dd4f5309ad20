use Rattle.std.proofs.Common.{◌≡◌, ◌≤◌, ◌<◌, ℕ, length, vec_len, take, drop}
use Rattle.sp_lattice.specs.System.{written}
use Rattle.sp_lattice.specs.Dense.{store_of}
use Rattle.sp_dense.proofs.evaluation.write_values.Given as goal

-- the values that are left are a front of all, and what is behind them is written
abbrev pub invariant-values : goal.invariant-values
invariant-values g l = record {
  long : vec_len l.row ≡ vec_len l.fn.row;
  few : vec_len l.values ≤ length l.places;
  front : l.values.items ≡ take (vec_len l.values) l.fn.values.items;
  done : (k : ℕ) (d : g.row.V.Denot) → k < vec_len l.fn.row → store_of d l.row.items k ≡ written (store_of d l.fn.row.items) (drop (vec_len l.values) l.places) (drop (vec_len l.values) l.fn.values.items) k;
}

abbrev pub decreases-values : goal.decreases-values
decreases-values g l = vec_len l.values
