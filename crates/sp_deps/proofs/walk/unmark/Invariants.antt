use Rattle.std.proofs.Common.{◌≡◌, ℕ, false, ◌&&◌, not, get_or, take, vec_len}
use Rattle.sp_lattice.specs.System.{has}
use Rattle.sp_deps.proofs.walk.unmark.Given as goal

abbrev pub invariant-loop-node : goal.invariant-loop-node
invariant-loop-node l = record {
  long : vec_len l.marks ≡ vec_len l.fn.marks;
  so_far : (n : ℕ) → get_or l.marks.items n false ≡ (get_or l.fn.marks.items n false && not (has n (take l.node-index l.nodes.items)));
}
