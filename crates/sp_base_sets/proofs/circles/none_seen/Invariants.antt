use Rattle.std.proofs.Common.{◌≡◌, false, replicate}
use Rattle.sp_base_sets.specs.declared.circles.Stage.TheVariants.{New}
use Rattle.sp_base_sets.proofs.circles.none_seen.Given as goal

abbrev pub invariant-loop : goal.invariant-loop
invariant-loop l = record {
  stages : l.stages.items ≡ replicate l.counter New;
  marks : l.marks.items ≡ replicate l.counter false;
}
