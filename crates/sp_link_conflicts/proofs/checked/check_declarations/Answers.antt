use Rattle.std.proofs.Common.{map, ap, ◌∙◌}
use Rattle.sp_base_checked.specs.Units.{checked_unit_of}
use Rattle.sp_link_agreement.specs.Depths.{tables}
use Rattle.sp_link_conflicts.specs.Views.{declaration_of}
use Rattle.sp_link_conflicts.proofs.Judged.{tables_are, checked_from}
use Rattle.sp_link_conflicts.proofs.checked.check_declarations.Goals as goal

pub returns : goal.returns
returns c =
    checked_from (map checked_unit_of c.args.units.now) (tables c.args.units.now) (map declaration_of c.deref.result.now) c.check_all.result
    (tables_are c.args.units.now) (ap (map declaration_of) c.deref.ensures.value ∙ c.in_ok-all.ensures) c.check_all.ensures
