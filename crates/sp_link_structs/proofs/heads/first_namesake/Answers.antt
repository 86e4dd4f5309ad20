use Rattle.std.proofs.Common.{sym, ap, is_some, ◌∙◌}
use Rattle.indexmap.specs.IndexMap.{get}
use Rattle.sp_link_agreement.specs.Depths.{tables}
use Rattle.sp_link_structs.specs.Groups.{same_key}
use Rattle.sp_link_structs.specs.Matched.{in_turn}
use Rattle.sp_link_structs.proofs.Namesakes.{namesake_found, namesake_absent}
use Rattle.sp_link_structs.proofs.heads.first_namesake.Goals as goal

pub returns-in-Some : goal.returns-in-Some
returns-in-Some c =
    c.first_of.ensures
    ∙ ap (get same_key c.args.heads.now.firsts) c.head_key.ensures
    ∙ namesake_found (tables c.args.units.now) (in_turn (tables c.args.units.now)) c.args.of (get same_key c.args.heads.now.firsts) (sym (ap is_some c.in-Some.ensures)) c.requires.0

pub returns-in-None : goal.returns-in-None
returns-in-None c = sym (namesake_absent (tables c.args.units.now) (in_turn (tables c.args.units.now)) c.args.of (sym (ap is_some c.in-None.ensures)))
