use Rattle.std.proofs.Common.{◌≡◌}
use Rattle.sp_link_agreement.specs.Depths.{tables}
use Rattle.sp_link_structs.specs.Leading.{leader_by}
use Rattle.sp_link_structs.specs.Matched.{stand_ins, AreStandIns}
use Rattle.sp_link_structs.proofs.Tests.{if_ok}
use Rattle.sp_link_structs.proofs.matchings.stand_ins_of.Goals as goal

pub returns : goal.returns
returns c =
    if_ok c.all_stand_ins.result
    (λ ps. ps.items ≡ stand_ins (tables c.args.units.now) (leader_by c.in_ok-leaders.leaders))
    (λ ps. AreStandIns (tables c.args.units.now) ps.items)
    (λ ps h. (leader_by c.in_ok-leaders.leaders, c.in_ok-leaders.ensures, h))
    c.all_stand_ins.ensures
