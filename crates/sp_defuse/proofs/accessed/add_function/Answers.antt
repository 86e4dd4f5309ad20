use Rattle.std.proofs.Common.{ℕ, Option, Some, ◌&&◌, nat_eq, ap, ◌∙◌}
use Rattle.std.specs.Option.{option_eq}
use Rattle.sp_base_sets.specs.Sets.{has}
use Rattle.sp_defuse.proofs.Adding.{adds-nothing, no-function}
use Rattle.sp_defuse.proofs.accessed.add_function.Goals as goal

pub returns-in_default : goal.returns-in_default
returns-in_default c = adds-nothing (λ (r f : ℕ). has r c.args.rows.now && option_eq nat_eq (Some f) c.args.function) c.args.sets.now.items
    (λ r f. ap (λ (o : Option ℕ). has r c.args.rows.now && option_eq nat_eq (Some f) o) c.in_default.is ∙ no-function c.args.rows.now r f)
