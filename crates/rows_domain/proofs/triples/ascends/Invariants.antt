use Rattle.std.proofs.Common.{◌≡◌, ℕ, ◌<◌, ◌+◌, true, get_or}
use Rattle.sp_engine_keeping.specs.Triples.{is_before}
use Rattle.rows_domain.proofs.triples.ascends.Given as goal

abbrev pub invariant-loop-place : goal.invariant-loop-place
invariant-loop-place l = (k : ℕ) (d : ℕ × ℕ) → k + 1 < l.place → is_before (get_or l.row k d) (get_or l.row (k + 1) d) ≡ true
