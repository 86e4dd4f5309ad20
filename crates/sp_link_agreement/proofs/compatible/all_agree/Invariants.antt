use Rattle.std.proofs.Common.{drop}
use Rattle.sp_link_agreement.specs.Depths.{tables, EachAgrees}
use Rattle.sp_link_agreement.specs.Known.{IsKnown}
use Rattle.sp_link_agreement.proofs.compatible.all_agree.Given as goal

abbrev pub invariant-found : goal.invariant-found
invariant-found l = record {
  known : IsKnown (tables l.units) l.known;
  rest : EachAgrees (tables l.units) l.left l.right (drop l.i l.found) → EachAgrees (tables l.units) l.left l.right l.found;
}
