use Rattle.std.proofs.Common.{◌≡◌, ◌+◌, ◌≤◌, drop}
use Rattle.sp_lower_statements.specs.Starts.{starts_of, adding_starts}
use Rattle.sp_lower_statements.proofs.declarations.adding_starts.Given as goal

abbrev pub invariant-loop-start : goal.invariant-loop-start
invariant-loop-start l =
    (l.count + adding_starts (starts_of (drop l.start-index l.starts)) ≡ adding_starts (starts_of l.fn.starts))
    × (l.count ≤ l.start-index)
