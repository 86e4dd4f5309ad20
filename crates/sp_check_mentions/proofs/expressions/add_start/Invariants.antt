use Rattle.std.proofs.Common.{◌≡◌, ◌++◌, map, drop}
use Rattle.sp_types.specs.TypedView.{typed_of}
use Rattle.sp_check_mentions.specs.Mentions.{start_mentions}
use Rattle.sp_check_mentions.proofs.expressions.add_start.Given as goal

abbrev pub invariant-loop-value : goal.invariant-loop-value
invariant-loop-value l =
    l.found.items ++ start_mentions (map (λ s. (s.0, typed_of s.1)) (drop l.value-index l.start))
    ≡ l.initial.found.items ++ start_mentions (map (λ s. (s.0, typed_of s.1)) l.start)
