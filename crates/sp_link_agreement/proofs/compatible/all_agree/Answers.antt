use Rattle.std.proofs.Common.{◌<◌, length, sym, ◌∙◌, true≢false, arith}
use Rattle.sp_link_agreement.specs.Depths.{tables}
use Rattle.sp_link_agreement.proofs.Typed.{each_here}
use Rattle.sp_link_agreement.proofs.compatible.all_agree.Goals as goal

pub returns-then-not-branch-clause-answer : goal.returns-then-not-branch-clause-answer
returns-then-not-branch-clause-answer c =
    let inside : c.found.i < length c.args.found.now = omega arith in (
      (λ t. absurd (true≢false (sym t))),
      (λ each.
          absurd (true≢false (sym (c.in_ok-agree.ensures.answer.1 (each_here (tables c.args.units.now) c.args.left c.args.right c.args.found.now each c.found.i inside)) ∙ c.if-not-branch.true))),
    )
