use Rattle.std.proofs.Common.{◌≡◌, ℕ, true, false, get_or, take}
use Rattle.sp_lattice.specs.System.{has}
use Rattle.sp_deps.proofs.stretches.set_marks.Given as goal

abbrev pub invariant-loop-place : goal.invariant-loop-place
invariant-loop-place l = l.mark ≡ false → (n : ℕ) → get_or l.marks.items n false ≡ true → has n (take l.place-index l.places) ≡ false
