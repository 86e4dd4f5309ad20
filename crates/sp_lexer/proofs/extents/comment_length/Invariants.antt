use Rattle.std.proofs.Common.{◌≡◌, ℕ, ◌≤◌, ◌<◌, false}
use Rattle.sp_lexer.specs.Scan.{closes_at}
use Rattle.sp_lexer.proofs.extents.comment_length.Given as goal

-- no close stands before
abbrev pub invariant-loop-k : goal.invariant-loop-k
invariant-loop-k l = (k : ℕ) → 2 ≤ k → k < l.k → closes_at l.text k ≡ false
