use Rattle.std.proofs.Common.{get_or, arith, refl}
use Rattle.sp_base_sets.proofs.Members.{has_there}
use Rattle.sp_points_expr.proofs.growing.wake.Goals as goal

pub push-requires : goal.push-requires
push-requires c =
    let rules = c.args.rules.now in
    let i = c.loop-rule.rule-index in
    let low = c.requires (get_or rules i 0) (has_there rules (get_or rules i 0) i c.loop-rule-test.true refl) in
    omega (arith, low, c.loop-rule.invariant.counted)
