use Rattle.std.proofs.Common.{◌≡◌, ◌∙◌, Some, ap, subst}
use Rattle.sp_ir.specs.Programs.{lowered_of}
use Rattle.sp_points_rules.specs.Sources.{root_where, result_of}
use Rattle.sp_base_sets.specs.Sets.{Gains}
use Rattle.sp_base_sets.proofs.Images.{images_more}
use Rattle.sp_points_rules.proofs.sources.results.Goals as goal

pub loop-function-preserved : goal.loop-function-preserved
loop-function-preserved c =
    images_more (λ r k. root_where (lowered_of c.args.lowered.now) c.args.test (result_of (lowered_of c.args.lowered.now) r) ≡ Some k) c.as_slice-numbers.result.now c.loop-function.function-index c.loop-function.set c.add_some.new.self c.loop-function-test.true c.loop-function.invariant
    (subst (λ o. Gains (λ k. o ≡ Some k) c.loop-function.set c.add_some.new.self) (c.root_where-root.ensures ∙ ap (λ o. root_where (lowered_of c.args.lowered.now) c.args.test o) c.result_of.ensures) c.in_ok-add_some.ensures)
