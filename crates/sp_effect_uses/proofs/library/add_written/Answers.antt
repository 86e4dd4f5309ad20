use Rattle.std.proofs.Common.{◌∙◌, ◌||◌, map, sym, ap}
use Rattle.sp_lattice.specs.System.{has}
use Rattle.sp_ir.specs.View.{expression_of}
use Rattle.sp_effect_rows.specs.Setting.{cell_of}
use Rattle.sp_effect_scene.specs.Analysed.{setting_of}
use Rattle.sp_effect_scene.specs.View.{analysed_of}
use Rattle.sp_effect_uses.proofs.Steps.{or-none}
use Rattle.sp_effect_uses.proofs.Routines.{written-same, written-none}
use Rattle.sp_effect_uses.proofs.library.add_written.Goals as goal

pub returns-then-not-branch : goal.returns-then-not-branch
returns-then-not-branch c = λ l.
    let a = analysed_of c.args.analysis.now in
    or-none (has (cell_of (setting_of a) l) c.args.set.now)
    ∙ ap (λ b. has (cell_of (setting_of a) l) c.args.set.now || b)
    (sym (written-none a c.args.written (map expression_of c.args.args.now) c.args.site l (sym c.in_ok-may_come.ensures ∙ c.if-not-branch.true)))

pub returns : goal.returns
returns c = λ l.
    let a = analysed_of c.args.analysis.now in
    c.in_ok-add_landed.ensures (cell_of (setting_of a) l)
    ∙ ap (λ b. has (cell_of (setting_of a) l) c.args.set.now || b)
    (written-same a c.args.written (map expression_of c.args.args.now) c.args.site l c.as_slice.result.now (sym c.in_ok-may_come.ensures ∙ c.if-not-branch.false)
    (λ x. ap (has x) c.as_slice.ensures.numbers ∙ c.in_ok-regions.ensures x))
