use Rattle.std.proofs.Common.{◌≡◌, ◌∙◌, true, not, nat_eq, length, map, sym, ap}
use Rattle.sp_lattice.specs.System.{has}
use Rattle.sp_ir.specs.View.{expression_of}
use Rattle.sp_points_rules.specs.Paths.{is_text}
use Rattle.sp_effect_scene.specs.Analysed.{setting_of}
use Rattle.sp_effect_scene.specs.View.{analysed_of}
use Rattle.sp_effect_library.specs.Written.{may_come}
use Rattle.sp_effect_uses.specs.Parts.{argument_points}
use Rattle.sp_effect_uses.proofs.Steps.{any-same}
use Rattle.sp_effect_uses.proofs.Routines.{some-there}
use Rattle.sp_effect_uses.proofs.library.may_come.Goals as goal

pub returns-in_ok-sources-in-Copied : goal.returns-in_ok-sources-in-Copied
returns-in_ok-sources-in-Copied c =
    let a = analysed_of c.args.analysis.now in
    let args = map expression_of c.args.args.now in
    let empty : c.is_empty.result ≡ nat_eq (length c.as_slice.result.now) 0 = c.is_empty.ensures in
    ap not empty
    ∙ some-there c.as_slice.result.now
    ∙ any-same (λ s. true) c.as_slice.result.now (argument_points a args 1) (λ x. ap (has x) c.as_slice.ensures.numbers ∙ c.in_ok-sources-in-Copied.ensures x)
    ∙ ap (λ w. may_come a.program (setting_of a).points_to w args) (sym c.in-Copied.is)

pub returns-in_ok-sources-in-CopiedText : goal.returns-in_ok-sources-in-CopiedText
returns-in_ok-sources-in-CopiedText c =
    let a = analysed_of c.args.analysis.now in
    let args = map expression_of c.args.args.now in
    c.any_text.ensures
    ∙ any-same (is_text a.program) c.as_slice-in-CopiedText.result.now (argument_points a args 1) (λ x. ap (has x) c.as_slice-in-CopiedText.ensures.numbers ∙ c.in_ok-sources-in-CopiedText.ensures x)
    ∙ ap (λ w. may_come a.program (setting_of a).points_to w args) (sym c.in-CopiedText.is)
