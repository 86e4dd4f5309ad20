use Rattle.std.proofs.Common.{map, drop}
use Rattle.sp_link_agreement.specs.Depths.{tables}
use Rattle.sp_link_agreement.specs.Known.{IsKnown}
use Rattle.sp_link_conflicts.specs.Conflicts.{AllFit}
use Rattle.sp_link_conflicts.specs.Views.{declaration_of, seen_declaration}
use Rattle.sp_link_conflicts.proofs.checked.fits.Given as goal

abbrev pub invariant-earlier : goal.invariant-earlier
invariant-earlier l = record {
  known : IsKnown (tables l.units) l.known;
  rest : AllFit (tables l.units) (map seen_declaration (drop l.other-index l.earlier)) (declaration_of l.declaration)
      → AllFit (tables l.units) (map seen_declaration l.earlier) (declaration_of l.declaration);
}
