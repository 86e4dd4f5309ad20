use Rattle.std.proofs.Common.{◌<◌, length, get_or, sym, subst, ◌∙◌, true≢false, arith}
use Rattle.sp_link_agreement.specs.Depths.{tables}
use Rattle.sp_link_conflicts.specs.Conflicts.{AreCompatible}
use Rattle.sp_link_conflicts.specs.Views.{declaration_of, seen_declaration}
use Rattle.sp_link_conflicts.proofs.Judged.{get_mapped}
use Rattle.sp_link_conflicts.proofs.checked.fits.Goals as goal

pub returns-then-not-branch-clause-answer : goal.returns-then-not-branch-clause-answer
returns-then-not-branch-clause-answer c =
    let inside : c.earlier.other-index < length c.args.earlier.now = omega arith in (
      c.earlier.other-index,
      seen_declaration (get_or c.args.earlier.now c.earlier.other-index c.other-item.result),
      get_mapped seen_declaration c.args.earlier.now c.earlier.other-index c.other-item.result inside,
      (λ a.
          true≢false (sym (c.in_ok-types_agree.ensures.answer.1 (subst (λ z. AreCompatible (tables c.args.units.now) (seen_declaration z) (declaration_of c.args.declaration.now)) (sym c.other-item.is) a)) ∙ c.if-not-branch.true)),
    )
