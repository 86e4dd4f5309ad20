use Rattle.std.proofs.Common.{◌<◌, length, take, subst, arith}
use Rattle.sp_link_agreement.specs.Depths.{tables}
use Rattle.sp_link_structs.specs.Groups.{AreGroups}
use Rattle.sp_link_structs.proofs.Members.{take_one_more}
use Rattle.sp_link_structs.proofs.groups.groups_of.Goals as goal

pub all-preserved : goal.all-preserved
all-preserved c =
    let inside : c.all.i < length c.args.all.now = omega arith in
    subst (λ xs. AreGroups (tables c.args.units.now) xs c.add_one.new.groups) (take_one_more c.args.all.now c.all.i (0, 0) inside)
    (c.in_ok-add_one.ensures (take c.all.i c.args.all.now) c.all.invariant)
