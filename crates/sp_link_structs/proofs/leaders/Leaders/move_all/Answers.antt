use Rattle.std.proofs.Common.{◌<◌, length, arith}
use Rattle.sp_link_structs.specs.Leading.{leader_by}
use Rattle.sp_link_structs.proofs.Leading.{moved_more}
use Rattle.sp_link_structs.proofs.leaders.Leaders.move_all.Goals as goal

pub list-preserved : goal.list-preserved
list-preserved c =
    let inside : c.list.i < length c.args.list.now = omega arith in
    λ x. moved_more c.args.list.now c.list.i (0, 0) c.args.old c.args.new x (leader_by c.args.self.now x) (leader_by c.list.self x)
    (leader_by c.move_one.new.self x) inside (c.list.invariant x) (c.in_ok-move_one.ensures x)
