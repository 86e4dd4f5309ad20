use Rattle.std.proofs.Common.{◌≡◌, ◌<◌, ℕ, true, get_or, take}
use Rattle.sp_lattice.specs.System.{has}
use Rattle.sp_deps.proofs.stretches.next_head.Given as goal

abbrev pub invariant-loop-from : goal.invariant-loop-from
invariant-loop-from g l = (p : ℕ) → has p (take l.from-index l.edges) ≡ true → (p < l.node) × (get_or l.heads p 0 ≡ l.head)
