use Rattle.sp_interval.specs.Interval.{whole}
use Rattle.sp_value.specs.FormedLaws.{test_from_formed, hull-ordered_within}
use Rattle.sp_eval.proofs.steps.with_every.Goals as goal

pub returns-else-is_empty-clause-formed : goal.returns-else-is_empty-clause-formed
returns-else-is_empty-clause-formed c =
    rw c.hull.ensures (hull-ordered_within whole c.args.numbers c.every.result (test_from_formed c.args.numbers c.requires.numbers) c.every.ensures.formed)
