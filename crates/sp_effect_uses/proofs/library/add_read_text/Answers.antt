use Rattle.std.proofs.Common.{◌∙◌, ◌&&◌, ◌||◌, nat_eq, sym, ap}
use Rattle.std.specs.List.{list_any}
use Rattle.sp_lattice.specs.System.{has}
use Rattle.sp_ir.specs.Programs.{lowered_of}
use Rattle.sp_points_rules.specs.Paths.{is_text}
use Rattle.sp_effect_uses.proofs.Routines.{text-read}
use Rattle.sp_effect_uses.proofs.library.add_read_text.Goals as goal

pub returns-in_ok-add_all_text : goal.returns-in_ok-add_all_text
returns-in_ok-add_all_text c = λ r.
    c.in_ok-add_all_text.ensures r
    ∙ ap (λ b. has r c.args.set.now || (b && list_any (λ s. is_text (lowered_of c.args.lowered.now) s && nat_eq s r) c.args.sources.now)) (sym c.if-any_text.true ∙ c.any_text.ensures)
    ∙ ap (λ b. has r c.args.set.now || b) (text-read (lowered_of c.args.lowered.now) c.args.targets.now c.args.sources.now r)
