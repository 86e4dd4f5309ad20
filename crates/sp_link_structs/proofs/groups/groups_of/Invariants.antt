use Rattle.std.proofs.Common.{take}
use Rattle.sp_link_agreement.specs.Depths.{tables}
use Rattle.sp_link_structs.specs.Groups.{AreGroups}
use Rattle.sp_link_structs.proofs.groups.groups_of.Given as goal

abbrev pub invariant-all : goal.invariant-all
invariant-all l = AreGroups (tables l.units) (take l.i l.all) l.groups
