use Rattle.std.proofs.Common.{map, take}
use Rattle.sp_link_agreement.specs.Depths.{tables}
use Rattle.sp_link_agreement.specs.Known.{IsKnown}
use Rattle.sp_link_conflicts.specs.Conflicts.{AreProperBelow}
use Rattle.sp_link_conflicts.specs.Earlier.{AreEarlier}
use Rattle.sp_link_conflicts.specs.Views.{declaration_of}
use Rattle.sp_link_conflicts.proofs.checked.check_all.Given as goal

abbrev pub invariant-all : goal.invariant-all
invariant-all l = record {
  known : IsKnown (tables l.units) l.known;
  earlier : AreEarlier (take l.declaration-index (map declaration_of l.all)) l.earlier;
  proper : AreProperBelow (tables l.units) (map declaration_of l.all) l.declaration-index;
}
