use Rattle.std.proofs.Common.{◌≡◌, ◌+◌, drop}
use Rattle.sp_lexer.specs.Extents.{run_len}
use Rattle.sp_lexer.proofs.extents.run_length.Given as goal

-- the bytes so far go on, and those that are left as long as all do
abbrev pub invariant-loop-i : goal.invariant-loop-i
invariant-loop-i l = run_len l.last (drop l.i l.text) + l.i ≡ run_len 48 l.text
