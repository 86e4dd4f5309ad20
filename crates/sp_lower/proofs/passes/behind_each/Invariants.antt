use Rattle.std.proofs.Common.{◌≡◌, ◌+◌, map, drop}
use Rattle.sp_lower_objects.specs.Seen.{seen_function}
use Rattle.sp_lower.specs.Programs.{local_count}
use Rattle.sp_lower.proofs.passes.behind_each.Given as goal

abbrev pub invariant-loop-k : goal.invariant-loop-k
invariant-loop-k l =
    l.behind + local_count l.k (map seen_function (drop l.k l.defined)) l.counts
    ≡ l.first + local_count 0 (map seen_function l.defined) l.counts
