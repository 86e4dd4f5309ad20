use Rattle.std.proofs.Common.{◌≡◌, map, drop}
use Rattle.sp_link_conflicts.specs.Conflicts.{any_defines}
use Rattle.sp_link_conflicts.specs.Views.{seen_declaration}
use Rattle.sp_link_conflicts.proofs.checked.any_defines.Given as goal

abbrev pub invariant-earlier : goal.invariant-earlier
invariant-earlier l =
    any_defines (map seen_declaration (drop l.other-index l.earlier)) ≡ any_defines (map seen_declaration l.earlier)
