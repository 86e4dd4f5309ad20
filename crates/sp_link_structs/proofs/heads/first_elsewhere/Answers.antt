use Rattle.std.proofs.Common.{sym, ap, is_some, ◌∙◌}
use Rattle.sp_link_agreement.specs.Depths.{tables}
use Rattle.sp_link_structs.specs.Matched.{in_turn}
use Rattle.sp_link_structs.specs.Turns.{elsewhere_by}
use Rattle.sp_link_structs.proofs.Namesakes.{elsewhere_found, elsewhere_absent}
use Rattle.sp_link_structs.proofs.heads.first_elsewhere.Goals as goal

pub returns-in-Some : goal.returns-in-Some
returns-in-Some c =
    c.elsewhere.ensures
    ∙ ap (λ k. elsewhere_by c.args.heads.now k c.args.of) c.head_key.ensures
    ∙ elsewhere_found (tables c.args.units.now) (in_turn (tables c.args.units.now)) c.args.of c.args.heads.now (sym (ap is_some c.in-Some.ensures)) c.requires

pub returns-in-None : goal.returns-in-None
returns-in-None c = sym (elsewhere_absent (tables c.args.units.now) (in_turn (tables c.args.units.now)) c.args.of (sym (ap is_some c.in-None.ensures)))
