use Rattle.std.proofs.Common.{◌≡◌, ◌<◌, ℕ, length, vec_len}
use Rattle.sp_lattice.specs.Dense.{input, table_of}
use Rattle.sp_lattice.specs.Flat.{vector_at}
use Rattle.sp_dense.proofs.solver.input_rows.Given as goal

abbrev pub invariant-loop-node : goal.invariant-loop-node
invariant-loop-node g l =
    let o = g.S.Value.Lattice.order in
    let m = g.S.System.meaning l.system in
    record {
      long : vec_len l.inputs ≡ l.node;
      rows_long : (n : ℕ) → n < l.node → length (vector_at l.inputs.items n) ≡ m.locations;
      values : (n k : ℕ) → n < l.node → k < m.locations → table_of o.bottom l.inputs.items n k ≡ input o m (table_of o.bottom l.rows.items) n k;
    }
