use Rattle.std.proofs.Common.{◌≡◌, inl, inr, ◌∙◌, ◌||◌, map, sym, ap}
use Rattle.sp_lattice.specs.System.{has}
use Rattle.sp_ir.specs.View.{expression_of}
use Rattle.sp_effect_scene.specs.View.{analysed_of}
use Rattle.sp_effect_library.specs.Written.{read_text}
use Rattle.sp_effect_library.specs.Effects.{moved_reads}
use Rattle.sp_effect_uses.specs.Parts.{argument_points}
use Rattle.sp_effect_uses.proofs.Routines.{text-same, paired-same}
use Rattle.sp_effect_uses.proofs.library.add_moved.Goals as goal

pub returns-in-Copied : goal.returns-in-Copied
returns-in-Copied c = λ r.
    let a = analysed_of c.args.analysis.now in
    let args = map expression_of c.args.args.now in
    c.in_ok-add_all_paired-in-Copied.ensures r
    ∙ ap (λ b. has r c.args.set.now || b)
    (paired-same a.program c.as_slice.result.now (argument_points a args 0) c.as_slice-in-Copied.result.now (argument_points a args 1)
    (λ x. ap (has x) c.as_slice.ensures.numbers ∙ c.in_ok-targets.ensures x) (λ x. ap (has x) c.as_slice-in-Copied.ensures.numbers ∙ c.in_ok-sources.ensures x) r
    ∙ ap (λ w. has r (moved_reads a args w)) (sym c.in-Copied.is))

pub returns-in-CopiedText : goal.returns-in-CopiedText
returns-in-CopiedText c = λ r.
    let a = analysed_of c.args.analysis.now in
    let args = map expression_of c.args.args.now in
    let reads : has r (read_text a.program (argument_points a args 0) (argument_points a args 1)) ≡ has r (moved_reads a args c.args.written) =
    elim c.in-CopiedText.is [
      | inl e ↦ ap (λ w. has r (moved_reads a args w)) (sym e)
      | inr e ↦ ap (λ w. has r (moved_reads a args w)) (sym e)
    ] in
    c.in_ok-add_read_text-in-CopiedText.ensures r
    ∙ ap (λ b. has r c.args.set.now || b)
    (text-same a.program c.as_slice-in-CopiedText.result.now (argument_points a args 0) c.as_slice-in-CopiedText-2.result.now (argument_points a args 1)
    (λ x. ap (has x) c.as_slice-in-CopiedText.ensures.numbers ∙ c.in_ok-targets.ensures x) (λ x. ap (has x) c.as_slice-in-CopiedText-2.ensures.numbers ∙ c.in_ok-sources.ensures x) r
    ∙ reads)
