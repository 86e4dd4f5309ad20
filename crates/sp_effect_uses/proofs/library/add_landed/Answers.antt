use Rattle.std.proofs.Common.{◌∙◌, ◌||◌, sym, ap}
use Rattle.std.specs.List.{list_any}
use Rattle.sp_lattice.specs.System.{has}
use Rattle.sp_effect_scene.specs.View.{analysed_of}
use Rattle.sp_effect_library.specs.Written.{lands}
use Rattle.sp_effect_uses.proofs.Steps.{or-none}
use Rattle.sp_effect_uses.proofs.Routines.{any-none}
use Rattle.sp_effect_uses.proofs.library.add_landed.Goals as goal

pub returns-in-Unwritten : goal.returns-in-Unwritten
returns-in-Unwritten c = λ r.
    or-none (has r c.args.set.now)
    ∙ ap (λ b. has r c.args.set.now || b) (sym (ap (λ w. list_any (λ q. lands (analysed_of c.args.analysis.now).program w q r) c.args.regions.now) c.in-Unwritten.is ∙ any-none c.args.regions.now))
