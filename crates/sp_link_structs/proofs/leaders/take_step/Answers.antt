use Rattle.std.proofs.Common.{◌∙◌}
use Rattle.sp_link_agreement.specs.Depths.{tables}
use Rattle.sp_link_structs.specs.Leading.{leader_by, earlier, later, moved}
use Rattle.sp_link_structs.proofs.Leading.{step_leads, step_keeps, step_taken}
use Rattle.sp_link_structs.proofs.leaders.take_step.Goals as goal

pub returns-in_ok-join-clause-leading : goal.returns-in_ok-join-clause-leading
returns-in_ok-join-clause-leading c =
    step_leads (tables c.args.units.now) (leader_by c.args.leaders.now) (leader_by c.join.new.self) c.requires.leading c.args.pair.0 c.args.pair.1
    c.requires.alike c.requires.complete (c.in_ok-is_new_step.ensures.step c.if-branch.true) c.args.list.now c.requires.list
    (λ y. c.in_ok-join.ensures y
    ∙ (λ i. moved c.args.list.now (later (c.leader-left.ensures i) (c.leader-right.ensures i)) (earlier (c.leader-left.ensures i) (c.leader-right.ensures i)) y (leader_by c.args.leaders.now y)))

pub returns-in_ok-join-clause-one : goal.returns-in_ok-join-clause-one
returns-in_ok-join-clause-one c =
    step_keeps (tables c.args.units.now) (leader_by c.args.leaders.now) (leader_by c.join.new.self) c.requires.leading c.args.pair.0 c.args.pair.1
    c.requires.alike c.requires.complete (c.in_ok-is_new_step.ensures.step c.if-branch.true) c.args.list.now c.requires.list
    (λ y. c.in_ok-join.ensures y
    ∙ (λ i. moved c.args.list.now (later (c.leader-left.ensures i) (c.leader-right.ensures i)) (earlier (c.leader-left.ensures i) (c.leader-right.ensures i)) y (leader_by c.args.leaders.now y)))

pub returns-in_ok-join-clause-taken : goal.returns-in_ok-join-clause-taken
returns-in_ok-join-clause-taken c =
    λ step. step_taken (tables c.args.units.now) (leader_by c.args.leaders.now) (leader_by c.join.new.self) c.requires.leading c.args.pair.0 c.args.pair.1
    c.requires.alike c.requires.complete step c.args.list.now c.requires.list
    (λ y. c.in_ok-join.ensures y
    ∙ (λ i. moved c.args.list.now (later (c.leader-left.ensures i) (c.leader-right.ensures i)) (earlier (c.leader-left.ensures i) (c.leader-right.ensures i)) y (leader_by c.args.leaders.now y)))
