use Rattle.std.proofs.Common.{◌≡◌, ap, sym, ◌∙◌, subst, false, ◌&&◌}
use Rattle.std.specs.Int.{w128}
use Rattle.std.specs.Int.RustNames.{FitsSigned}
use Rattle.std.proofs.lemmas.Int.{to_z-of_z, SFits-int_wrap}
use Rattle.sp_check_constants.specs.Constants.{within, is_signed}
use Rattle.sp_check_constants.proofs.Wrapping.{kept_is, lost_is, and_left, and_right}
use Rattle.sp_check_constants.proofs.constants.kept.Goals.{else-told-via-then-told+else-is_signed, else-told-via-else-told}
use Rattle.sp_check_constants.proofs.constants.kept.Goals as goal

pub returns-then-is_signed : goal.returns-then-is_signed
returns-then-is_signed c = λ z e f. lost_is c.args.kind c.args.told.1 z c.if-told.true (sym c.is_signed.ensures ∙ c.if-is_signed.true) f

pub returns : goal.returns
returns c = λ z e f.
    let fits : FitsSigned w128 c.args.told.0 = subst (FitsSigned w128) (sym e) (SFits-int_wrap w128 z) in
    let kept : (c.args.told.1 && is_signed c.args.kind) ≡ false = elim c.else-told.branch [
      | else-told-via-then-told+else-is_signed w ↦ and_right c.args.told.1 (is_signed c.args.kind) (sym w.is_signed.ensures ∙ w.if-is_signed.false)
      | else-told-via-else-told w ↦ and_left c.args.told.1 (is_signed c.args.kind) w.if-told.false
    ] in
    c.within.ensures ∙ ap (within c.args.kind) (to_z-of_z w128 c.args.told.0 fits) ∙ kept_is c.args.kind c.args.told.0 c.args.told.1 z kept e f
