use Rattle.std.proofs.Common.{◌≡◌, ◌≤◌, ◌<◌, ℕ, vec_len, cond}
use Rattle.sp_lattice.specs.Dense.{store_of}
use Rattle.sp_dense.proofs.evaluation.join_passed.Given as goal

-- the row is joined below the location, and elsewhere as it was
abbrev pub invariant-loop-location : goal.invariant-loop-location
invariant-loop-location g l =
    let o = g.S.Value.Lattice.order in
    let m = g.S.System.meaning l.system in
    record {
      long : vec_len l.row ≡ m.locations;
      below : (k : ℕ) → k < l.location → store_of o.bottom l.row.items k ≡ cond (m.passes l.from l.node k) (o.join (store_of o.bottom l.fn.row.items k) (store_of o.bottom l.other.items k)) (store_of o.bottom l.fn.row.items k);
      left : (k : ℕ) → l.location ≤ k → store_of o.bottom l.row.items k ≡ store_of o.bottom l.fn.row.items k;
    }
